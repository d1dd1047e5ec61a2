-- The test that two fractions are equal is an equivalence.
use Rattle.std.specs.Cmp.{IsEquivalence, IsPartialEquivalence, nat_eq_equiv, int_eq_equiv, on_equiv, and_equiv, partial_equiv_from_equiv}
use Rattle.frac_math.specs.Fraction.{ℚ, equal_ℚ}

pub equal_equivalence : IsEquivalence equal_ℚ
unfolding equal_ℚ
equal_equivalence = and_equiv (on_equiv (λ (x : ℚ). x.numerator) int_eq_equiv) (on_equiv (λ (x : ℚ). x.denominator) nat_eq_equiv)

pub equal_partial_equivalence : IsPartialEquivalence equal_ℚ
equal_partial_equivalence = partial_equiv_from_equiv equal_equivalence
