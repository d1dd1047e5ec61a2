-- What a read of a line answers, where the bytes left are told.
use Rattle.std.proofs.Common.{◌≡◌, ℕ, ◌+◌, ◌-◌, ◌<◌, ◌≤◌, true, false, List, [], ◌∷◌, ◌++◌, length, take, get_or, refl, sym, ap, ◌∙◌, subst}
use Rattle.std.proofs.Common.{arith, add-one, append-nil, append_assoc, length-append, length-take-le, take_at, ◌≢◌}
use Rattle.std.specs.Prelude.{Option, Some, None, IfSome, Ok}
use Rattle.std.specs.List.{list_any}
use Rattle.std.specs.Io.KnownBytes.{Consumes, IsAtEnd}
use Rattle.std.proofs.Math.Seq.{take-append-add, take-suc}
use Rattle.std.proofs.lemmas.List.Folds.{list_any-append}
use Rattle.std.proofs.lemmas.Bool.{false_from_ne_true, eqb-true}
use borrow.Rule.Slice.PartMut.{put_mid, post_of}
use Rattle.pix_io.proofs.Parts.{Consumes-behind}
use Rattle.y4m_io.specs.declared.fault.StreamFault.TheVariants.{LineTooLong}
use Rattle.y4m_io.specs.declared.line.LineKind.{LineKind}
use Rattle.y4m_io.specs.Lines.{is_newline}
use Rattle.y4m_io.specs.LineKinds.{is_front, wrong_word, cut_off, line_in, IsNoLine}
use Rattle.y4m_io.proofs.LineFronts.{is_front-nothing, line_in-whole, line_in-wrong, line_in-long, line_in-short}

-- the bytes taken stand at the front of the buffer after one byte more was read into it
pub taken-next : (a b c : Option (List ℕ)) (line buf : List ℕ) (size count : ℕ) → size ≤ length line → length buf ≡ 1 → count ≤ length buf
    → count ≢ 0
    → Consumes a b (take size line) → Consumes b c (take count buf)
    → Consumes a c (take (size + 1) (put_mid size (size + 1 - size) line buf))
taken-next a b c line buf size count within one most some before now =
    let all : count ≡ 1 = omega arith in
    let more : Consumes b c (take 1 buf) = subst (λ n. Consumes b c (take n buf)) all now in
    Consumes-behind a b c line buf size (size + 1 - size) 1 within (omega arith) before more

-- its front is the old one
pub front-kept : (line buf : List ℕ) (size : ℕ) → size ≤ length line → take size (put_mid size (size + 1 - size) line buf) ≡ take size line
front-kept line buf size within = take_at (take size line) (buf ++ post_of size (size + 1 - size) line) size
    (length-take-le size line within)

-- and then the byte
pub front-next : (line buf : List ℕ) (size : ℕ) → size ≤ length line → size < length (put_mid size (size + 1 - size) line buf)
    → take (size + 1) (put_mid size (size + 1 - size) line buf) ≡ take size line ++
    (get_or (put_mid size (size + 1 - size) line buf) size 0 ∷ [])
front-next line buf size within more =
    let new = put_mid size (size + 1 - size) line buf in
    ap (λ n. take n new) (add-one size) ∙ take-suc new size 0 more
    ∙ ap (λ l. l ++ (get_or new size 0 ∷ [])) (front-kept line buf size within)

-- and what is not a newline keeps it without one
pub closed-next : (xs : List ℕ) (byte : ℕ) → list_any is_newline xs ≡ false → byte ≢ 10 → list_any is_newline (xs ++ byte ∷ []) ≡ false
closed-next xs byte closed other =
    let none : is_newline byte ≡ false = false_from_ne_true (is_newline byte) (λ is. other (eqb-true byte 10 is)) in
    list_any-append is_newline xs (byte ∷ []) ∙ rw (closed, none) refl

-- nothing was read at the end of the input
pub short-answer : (kind : LineKind) (a b c : Option (List ℕ)) (xs : List ℕ) → Consumes a b xs → Consumes b c [] → IsAtEnd c
    → list_any is_newline xs ≡ false → 0 < length xs → length xs ≤ 1024 → is_front kind xs ≡ true
    → IfSome a (IsNoLine kind (cut_off kind (length xs)))
short-answer kind None b c xs before now end closed some short same = tt
short-answer kind (Some x) None c xs before now end closed some short same = absurd before
short-answer kind (Some x) (Some y) None xs before now end closed some short same = absurd now
short-answer kind (Some x) (Some y) (Some z) xs before now end closed some short same =
    let all : x ≡ xs = before ∙ ap (λ l. xs ++ l) (now ∙ end) ∙ append-nil xs in
    rw all (some, line_in-short kind xs closed short same)

pub wrong-answer : (kind : LineKind) (a b : Option (List ℕ)) (xs : List ℕ) → Consumes a b xs → is_front kind xs ≡ false
    → IfSome a (IsNoLine kind (wrong_word kind))
wrong-answer kind None b xs taken differs = tt
wrong-answer kind (Some x) None xs taken differs = absurd taken
wrong-answer kind (Some x) (Some y) [] taken differs = let no : ⊥ = cc (is_front-nothing kind) in absurd no
wrong-answer kind (Some x) (Some y) (first ∷ xs) taken differs = rw taken (omega arith, line_in-wrong kind (first ∷ xs) y differs)

pub long-answer : (kind : LineKind) (a b : Option (List ℕ)) (xs : List ℕ) → Consumes a b xs → list_any is_newline xs ≡ false
    → 1024 < length xs → is_front kind xs ≡ true
    → IfSome a (IsNoLine kind LineTooLong)
long-answer kind None b xs taken closed long same = tt
long-answer kind (Some x) None xs taken closed long same = absurd taken
long-answer kind (Some x) (Some y) xs taken closed long same =
    let more = length-append xs y in
    rw taken (omega arith, line_in-long kind xs y closed long same)

pub whole-answer : (kind : LineKind) (a b : Option (List ℕ)) (xs : List ℕ) (size : ℕ) → Consumes a b (xs ++ 10 ∷ [])
    → list_any is_newline xs ≡ false → length xs ≡ size → size ≤ 1024
    → is_front kind (xs ++ 10 ∷ []) ≡ true
    → IfSome a (λ bytes. (line_in kind bytes ≡ Ok xs) × Consumes a b (take (size + 1) bytes))
whole-answer kind None b xs size taken closed is short same = tt
whole-answer kind (Some x) None xs size taken closed is short same = absurd taken
whole-answer kind (Some x) (Some y) xs size taken closed is short same =
    let all : x ≡ xs ++ 10 ∷ y = taken ∙ append_assoc xs (10 ∷ []) y in
    let front : take (size + 1) x ≡ xs ++ 10 ∷ [] =
    ap (take (size + 1)) all ∙ ap (λ n. take (n + 1) (xs ++ 10 ∷ y)) (sym is) ∙ take-append-add xs (10 ∷ y) 1 in
    (ap (line_in kind) all ∙ line_in-whole kind xs y closed (omega arith) same, taken ∙ ap (λ l. l ++ y) (sym front))
