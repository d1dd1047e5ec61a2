-- The test of the order of fractions, from their comparison.
use Rattle.std.proofs.Common.{◌≡◌, Greater, true, false, refl, arith}
use Rattle.std.proofs.lemmas.Int.{ints}
use Rattle.frac_math.specs.Fraction.{ℚ, order, is_at_most, ◌≤ℚ◌}
use Rattle.frac_math.proofs.FractionOrder.{order_is, lt_not_le_ℚ, most_true}
use Rattle.op_list.proofs.Ordered.{not_above}

at_most : (x y : ℚ) → x ≤ℚ y → true ≡ is_at_most x y
unfolding is_at_most
at_most x y h = let order = h.at_most in grind (arith, ints, order)

pub at_most-above : (x y : ℚ) → order x y ≡ Greater → false ≡ is_at_most x y
at_most-above x y e =
    (elim (is_at_most x y) as (λ t. is_at_most x y ≡ t → false ≡ t)
    [ true ↦ λ h. absurd (lt_not_le_ℚ y x (rw e at (order_is x y)) (most_true x y h)) | false ↦ λ h. refl ]) refl

pub at_most_not_above : (x y : ℚ) → (order x y ≡ Greater → ⊥) → true ≡ is_at_most x y
at_most_not_above x y not = at_most x y (not_above x y not)
