-- Facts of bytes where they are told.
use Rattle.std.proofs.Common.{◌≡◌, ℕ, List, ◌++◌, IfSome, ◌∙◌, ap, append-nil}
use Rattle.std.specs.declared.option.Option.{Option}
use Rattle.std.specs.declared.option.Option.TheVariants.{None, Some}
use Rattle.std.specs.Io.KnownBytes.{Consumes, IsAtEnd}
use Rattle.pix_io.specs.Shown.{Shown}
use Rattle.pix_io.specs.Streams.{Takes, HasEnded}
use Rattle.sws_run.specs.Frames.{IfTold}

pub some_map : {X : Type 0} (o : Option X) (P Q : X → Type 0) → ((x : X) → P x → Q x) → IfSome o P → IfSome o Q
some_map None P Q f p = tt
some_map (Some x) P Q f p = f x p

pub some_map2 : {X : Type 0} (o : Option X) (P Q R : X → Type 0) → ((x : X) → P x → Q x → R x) → IfSome o P → IfSome o Q → IfSome o R
some_map2 None P Q R f p q = tt
some_map2 (Some x) P Q R f p q = f x p q

pub some_always : {X : Type 0} (o : Option X) (P : X → Type 0) → ((x : X) → P x) → IfSome o P
some_always None P f = tt
some_always (Some x) P f = f x

pub told_map : (a b : Option (List ℕ)) (P Q : List ℕ → List ℕ → Type 0) → ((x y : List ℕ) → P x y → Q x y) → IfTold a b P → IfTold a b Q
told_map None b P Q f p = tt
told_map (Some x) None P Q f p = absurd p
told_map (Some x) (Some y) P Q f p = f x y p

pub told_then : (a b c : Option (List ℕ)) (P Q R : List ℕ → List ℕ → Type 0) → ((x y z : List ℕ) → P x y → Q y z → R x z) → IfTold a b P
    → IfTold b c Q → IfTold a c R
told_then None b c P Q R f p q = tt
told_then (Some x) None c P Q R f p q = absurd p
told_then (Some x) (Some y) None P Q R f p q = absurd q
told_then (Some x) (Some y) (Some z) P Q R f p q = f x y z p q

pub told_same : (a : Option (List ℕ)) (P : List ℕ → List ℕ → Type 0) → ((x : List ℕ) → P x x) → IfTold a a P
told_same None P f = tt
told_same (Some x) P f = f x

-- a fact of what is left, behind a fact of what was there
pub told_now : (a b : Option (List ℕ)) (P : List ℕ → List ℕ → Type 0) (Q : List ℕ → Type 0) (R : List ℕ → Type 0)
    → ((x y : List ℕ) → P x y → Q y → R x) → IfTold a b P → IfSome b Q → IfSome a R
told_now None b P Q R f p q = tt
told_now (Some x) None P Q R f p q = absurd p
told_now (Some x) (Some y) P Q R f p q = f x y p q

-- a fact of what was there before
pub told_old : (a b : Option (List ℕ)) (P : List ℕ → List ℕ → Type 0) (Q : List ℕ → Type 0) → ((x y : List ℕ) → P x y → Q x) → IfTold a b P
    → IfSome a Q
told_old None b P Q f p = tt
told_old (Some x) None P Q f p = absurd p
told_old (Some x) (Some y) P Q f p = f x y p

pub told_with : (a b : Option (List ℕ)) (P : List ℕ → List ℕ → Type 0) (Q : List ℕ → Type 0) (R : List ℕ → List ℕ → Type 0)
    → ((x y : List ℕ) → P x y → Q x → R x y) → IfTold a b P → IfSome a Q → IfTold a b R
told_with None b P Q R f p q = tt
told_with (Some x) None P Q R f p q = absurd p
told_with (Some x) (Some y) P Q R f p q = f x y p q

told_consumes : (a b : Option (List ℕ)) (bytes : List ℕ) → Consumes a b bytes → IfTold a b (λ x y. x ≡ bytes ++ y)
told_consumes None b bytes p = tt
told_consumes (Some x) None bytes p = absurd p
told_consumes (Some x) (Some y) bytes p = p

pub told_takes : (a b : Shown) (bytes : List ℕ) → Takes a b bytes → IfTold a.bytes b.bytes (λ x y. x ≡ bytes ++ y)
told_takes a b bytes = told_consumes a.bytes b.bytes bytes

-- bytes that come to an end are those taken
consumed_all : (a b : Option (List ℕ)) (bytes : List ℕ) → Consumes a b bytes → IsAtEnd b → IfSome a (λ x. x ≡ bytes)
consumed_all None b bytes p e = tt
consumed_all (Some x) None bytes p e = absurd p
consumed_all (Some x) (Some y) bytes p e = p ∙ ap (λ l. bytes ++ l) e ∙ append-nil bytes

pub takes_all : (a b : Shown) (bytes : List ℕ) → Takes a b bytes → HasEnded b → IfSome a.bytes (λ x. x ≡ bytes)
takes_all a b bytes = consumed_all a.bytes b.bytes bytes
