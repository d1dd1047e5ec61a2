-- How many parts lie wholly in a front of their sum.
use Rattle.std.proofs.Common.{◌≡◌, ℕ, ◌+◌, ◌-◌, ◌<◌, ◌≤◌, List, [], ◌∷◌, ◌++◌, length, refl, arith}
use Rattle.std.specs.List.{sum_by}
use Rattle.std.proofs.lemmas.List.Sums.{sum_by-cons}
use Rattle.std.proofs.lemmas.Bool.Decides.{nat_tests}
use Rattle.sws_run.specs.Cut.{whole_within}

-- m bytes are fewer than the first part has
abbrev pub IsBelowFirst : {X : Type 0} → (X → ℕ) → ℕ → List X → Type 0
IsBelowFirst size m [] = Unit {0}
IsBelowFirst size m (x ∷ xs) = m < size x

-- in the sum of the first parts and fewer bytes than the next part has, the first parts lie wholly
pub whole_at : {X : Type 0} (size : X → ℕ) (xs ys : List X) (m : ℕ) → IsBelowFirst size m ys
    → whole_within size (sum_by size xs + m) (xs ++ ys) ≡ length xs
whole_at size [] [] m below = refl
whole_at size [] (y ∷ ys) m below = grind (arith, nat_tests, below)
whole_at size (x ∷ xs) ys m below =
    let sum : sum_by size (x ∷ xs) ≡ size x + sum_by size xs = sum_by-cons size x xs in
    let behind : (sum_by size (x ∷ xs) + m) - size x ≡ sum_by size xs + m = omega (arith, sum) in
    let fits : size x ≤ sum_by size (x ∷ xs) + m = omega (arith, sum) in
    let tail : whole_within size ((sum_by size (x ∷ xs) + m) - size x) (xs ++ ys) ≡ length xs = rw behind (whole_at size xs ys m below) in
    grind (arith, nat_tests, fits, tail)
