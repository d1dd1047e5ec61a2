-- Natural numbers as fractions: their differences, products, inverses and quotients.
use Rattle.std.proofs.Common.{◌≡◌, ℕ, ◌-◌, ◌*◌, ◌<◌, ◌≤◌, pos, neg_ℤ, [], ◌∷◌, refl, sym, ◌∙◌, ap, arith}
use Rattle.frac_math.specs.Fraction.{ℚ, nat, over, ◌+ℚ◌, ◌*ℚ◌, ◌-ℚ◌, ◌/ℚ◌, ratio, inverse, neg_ℚ}
use Rattle.frac_math.proofs.Ring.{var, num, ◌⊕◌, ◌⊖◌, ◌⊗◌, ring, ring_from, done, by}
use Rattle.frac_math.proofs.Integers.{ints_ring}
use Rattle.frac_math.proofs.FractionRing.{fractions, same, itself, over_stands, mul_stands, neg_stands, whole-add, whole-mul}
use Rattle.frac_math.proofs.FractionRing.{inverse_stands}

pub nat-sub : (a b : ℕ) → b ≤ a → nat a -ℚ nat b ≡ nat (a - b)
nat-sub a b h =
    let e : nat a ≡ nat (a - b) +ℚ nat b = ap nat (omega arith) ∙ whole-add (pos (a - b)) (pos b) in
    ring_from fractions (nat a ∷ nat b ∷ nat (a - b) ∷ []) (var 0 ⊖ var 1) (var 2) (by (num (pos 1)) (var 0) (var 2 ⊕ var 1) done)
    (e, tt) refl

pub nat-mul : (x y : ℚ) (a b : ℕ) → x ≡ nat a → y ≡ nat b → x *ℚ y ≡ nat (a * b)
nat-mul x y a b p q = rw (p, q) (sym (whole-mul (pos a) (pos b)))

-- a fraction that is a positive whole number times its inverse
pub inverse_of : (x : ℚ) (n : ℕ) → x ≡ nat n → 0 < n → x *ℚ inverse x ≡ nat 1
inverse_of x n e h = rw e (inverse_stands (nat n) n 1 (itself (nat n)) h)

-- n/d as a fraction of two whole numbers, and as a quotient of two fractions
over_is : (n d : ℕ) → 0 < d → over (pos n) d ≡ nat n /ℚ nat d
unfolding inverse ratio
over_is n d h =
    same _ _ _ _ _ _ (over_stands (pos n) d h) (mul_stands _ _ _ _ _ _ (itself (nat n)) (over_stands (pos 1) d h))
    (ring ints_ring (pos n ∷ pos d ∷ []) (var 0 ⊗ (num (pos 1) ⊗ var 1)) (var 0 ⊗ num (pos 1) ⊗ var 1) refl)

pub over_quotient : (x y : ℚ) (n d : ℕ) → 0 < d → x ≡ nat n → y ≡ nat d → over (pos n) d ≡ x /ℚ y
over_quotient x y n d h p q = rw (p, q) (over_is n d h)

pub over_negative : (x y : ℚ) (n d : ℕ) → 0 < d → x ≡ nat n → y ≡ nat d → over (neg_ℤ (pos n)) d ≡ neg_ℚ (x /ℚ y)
over_negative x y n d h p q =
    same _ _ _ _ _ _ (over_stands (neg_ℤ (pos n)) d h) (neg_stands _ _ _ (over_stands (pos n) d h)) refl
    ∙ ap neg_ℚ (over_quotient x y n d h p q)
