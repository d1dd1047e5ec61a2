-- Lists of four.
use Rattle.std.proofs.Common.{◌≡◌, ℕ, zero, suc, ◌+◌, ◌<◌, Bool, true, ◌&&◌, List, [], ◌∷◌, length, get_or, refl, arith}
use Rattle.std.specs.Prelude.{sum}
use Rattle.std.proofs.lemmas.Bool.{and_from}
use Rattle.op_list.specs.Values.{four}
use Rattle.op_list.specs.Whole.{bits_below}

-- what holds of any four elements holds of a list of four
pub from_four : {A : Type 0} (P : List A → Type 0) (xs : List A) → length xs ≡ 4 → ((a b c d : A) → P (a ∷ b ∷ c ∷ d ∷ [])) → P xs
from_four P [] size each = absurd (omega (arith, size))
from_four P (a ∷ []) size each = absurd (omega (arith, size))
from_four P (a ∷ b ∷ []) size each = absurd (omega (arith, size))
from_four P (a ∷ b ∷ c ∷ []) size each = absurd (omega (arith, size))
from_four P (a ∷ b ∷ c ∷ d ∷ []) size each = each a b c d
from_four P (a ∷ b ∷ c ∷ d ∷ e ∷ rest) size each = absurd (omega (arith, size))

-- element i of four
pub get_or-four : {A : Type 0} (f : ℕ → A) (i : ℕ) (d : A) → i < 4 → get_or (four f) i d ≡ f i
get_or-four f zero d below = refl
get_or-four f (suc zero) d below = refl
get_or-four f (suc (suc zero)) d below = refl
get_or-four f (suc (suc (suc zero))) d below = refl
get_or-four f (suc (suc (suc (suc i)))) d below = absurd (omega arith)

-- lists of four whose elements agree
pub same_four : {A : Type 0} (f g : ℕ → A) → ((i : ℕ) → i < 4 → f i ≡ g i) → four f ≡ four g
same_four f g same =
    let first = same 0 (omega arith) in
    let second = same 1 (omega arith) in
    let third = same 2 (omega arith) in
    let fourth = same 3 (omega arith) in
    cc

-- four tests that hold
pub four_hold : (test : ℕ → Bool) → ((i : ℕ) → i < 4 → test i ≡ true) → (test 0 && (test 1 && (test 2 && (test 3 && true)))) ≡ true
four_hold test each =
    and_from (test 0) (test 1 && (test 2 && (test 3 && true))) (each 0 (omega arith))
    (and_from (test 1) (test 2 && (test 3 && true)) (each 1 (omega arith))
    (and_from (test 2) (test 3 && true) (each 2 (omega arith))
    (and_from (test 3) true (each 3 (omega arith)) refl)))

pub sum_four : (ns : List ℕ) → length ns ≡ 4 → sum ns ≡ get_or ns 0 0 + get_or ns 1 0 + get_or ns 2 0 + get_or ns 3 0
sum_four ns size =
    from_four (λ xs. sum xs ≡ get_or xs 0 0 + get_or xs 1 0 + get_or xs 2 0 + get_or xs 3 0) ns size
    (λ a b c d. let e : 0 + a + b + c + d ≡ a + b + c + d = omega arith in e)

-- the bits below each field
pub bits_below_first : (ns : List ℕ) → length ns ≡ 4 → bits_below ns 0 ≡ get_or ns 3 0 + get_or ns 2 0 + get_or ns 1 0
bits_below_first ns size =
    from_four (λ xs. bits_below xs 0 ≡ get_or xs 3 0 + get_or xs 2 0 + get_or xs 1 0) ns size
    (λ a b c d. let e : 0 + b + c + d ≡ d + c + b = omega arith in e)

pub bits_below_second : (ns : List ℕ) → length ns ≡ 4 → bits_below ns 1 ≡ get_or ns 3 0 + get_or ns 2 0
bits_below_second ns size =
    from_four (λ xs. bits_below xs 1 ≡ get_or xs 3 0 + get_or xs 2 0) ns size (λ a b c d. let e : 0 + c + d ≡ d + c = omega arith in e)

pub bits_below_third : (ns : List ℕ) → length ns ≡ 4 → bits_below ns 2 ≡ get_or ns 3 0
bits_below_third ns size = from_four (λ xs. bits_below xs 2 ≡ get_or xs 3 0) ns size (λ a b c d. let e : 0 + d ≡ d = omega arith in e)

pub bits_below_fourth : (ns : List ℕ) → length ns ≡ 4 → bits_below ns 3 ≡ 0
bits_below_fourth ns size = from_four (λ xs. bits_below xs 3 ≡ 0) ns size (λ a b c d. refl)
