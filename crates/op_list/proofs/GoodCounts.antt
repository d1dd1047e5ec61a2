-- Counts of elements or of bits that are good arguments.
use Rattle.std.proofs.Common.{◌≡◌, ℕ, zero, suc, ◌<◌, ◌≤◌, true, ◌&&◌, nat_le, List, [], ◌∷◌, sum, refl, arith}
use Rattle.std.proofs.lemmas.Bool.{and_from, le-leb}
use Rattle.op_list.specs.Typing.{are_in_front, are_counts}

-- each number above 0 stands behind one above 0
pub in_front : (a b c d : ℕ) → (0 < b → 0 < a) → (0 < c → 0 < b) → (0 < d → 0 < c) → are_in_front (a ∷ b ∷ c ∷ d ∷ []) ≡ true
in_front zero zero zero zero p q r = refl
in_front zero zero zero (suc d) p q r = absurd (omega arith)
in_front zero zero (suc c) d p q r = absurd (omega arith)
in_front zero (suc b) c d p q r = absurd (omega arith)
in_front (suc a) zero zero zero p q r = refl
in_front (suc a) zero zero (suc d) p q r = absurd (omega arith)
in_front (suc a) zero (suc c) d p q r = absurd (omega arith)
in_front (suc a) (suc b) zero zero p q r = refl
in_front (suc a) (suc b) zero (suc d) p q r = absurd (omega arith)
in_front (suc a) (suc b) (suc c) zero p q r = refl
in_front (suc a) (suc b) (suc c) (suc d) p q r = refl

pub good_counts : (most : ℕ) (ns : List ℕ) → are_in_front ns ≡ true → 1 ≤ sum ns → sum ns ≤ most → are_counts most ns ≡ true
good_counts most ns front some few =
    and_from (are_in_front ns && nat_le 1 (sum ns)) (nat_le (sum ns) most)
    (and_from (are_in_front ns) (nat_le 1 (sum ns)) front (le-leb 1 (sum ns) some)) (le-leb (sum ns) most few)
