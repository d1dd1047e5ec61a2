-- The lesser and the greater of two fractions, from their order.
use Rattle.std.proofs.Common.{◌≡◌, Less, Equal, Greater, refl, subst}
use Rattle.std.specs.Ordering.{MatchOrdering}
use Rattle.std.specs.declared.cmp.Ordering.{Ordering}
use Rattle.frac_math.specs.Fraction.{ℚ, order, min_ℚ, max_ℚ, ◌<ℚ◌, ◌≤ℚ◌}
use Rattle.frac_math.proofs.FractionOrder.{order_is, le_refl_ℚ, le_of_lt_ℚ, le_antisymm_ℚ, lt_not_le_ℚ, min_cases, max_cases}

le_unless_greater : (r : Ordering) (x y : ℚ) → MatchOrdering r (x <ℚ y) (x ≡ y) (y <ℚ x) → (r ≡ Greater → ⊥) → x ≤ℚ y
le_unless_greater Less x y h not = le_of_lt_ℚ x y h
le_unless_greater Equal x y h not = subst (λ (z : ℚ). x ≤ℚ z) h (le_refl_ℚ x)
le_unless_greater Greater x y h not = absurd (not refl)

above : (x y : ℚ) → order x y ≡ Greater → y <ℚ x
above x y e = rw e at (order_is x y)

pub not_above : (x y : ℚ) → (order x y ≡ Greater → ⊥) → x ≤ℚ y
not_above x y not = le_unless_greater (order x y) x y (order_is x y) not

pub min-above : (x y : ℚ) → order x y ≡ Greater → min_ℚ x y ≡ y
min-above x y e = min_cases (λ z. z ≡ y) x y (λ h. absurd (lt_not_le_ℚ y x (above x y e) h)) (λ h. refl)

pub min_not_above : (x y : ℚ) → (order x y ≡ Greater → ⊥) → min_ℚ x y ≡ x
min_not_above x y not = min_cases (λ z. z ≡ x) x y (λ h. refl) (λ h. le_antisymm_ℚ y x h (not_above x y not))

pub max-above : (x y : ℚ) → order x y ≡ Greater → max_ℚ x y ≡ x
max-above x y e = max_cases (λ z. z ≡ x) x y (λ h. absurd (lt_not_le_ℚ y x (above x y e) h)) (λ h. refl)

pub max_not_above : (x y : ℚ) → (order x y ≡ Greater → ⊥) → max_ℚ x y ≡ y
max_not_above x y not = max_cases (λ z. z ≡ y) x y (λ h. refl) (λ h. le_antisymm_ℚ x y (not_above x y not) h)
