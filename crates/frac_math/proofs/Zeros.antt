-- A sum or a product with 0: its numbers fit, and it is the other fraction, or 0.
use Rattle.std.proofs.Common.{◌≡◌, ℤ, pos, ◌*ℤ◌, sym, ◌∙◌, ap, subst, arith, unsigned_abs, to_z, of_z}
use Rattle.std.specs.Int.{w128}
use Rattle.std.specs.Int.RustNames.{FitsSigned}
use Rattle.std.proofs.lemmas.Int.{ints, to_z-of_z, fits_signed_from_abs}
use Rattle.frac_math.specs.Fraction.{ℚ, whole, over, ◌+ℚ◌, ◌*ℚ◌}
use Rattle.frac_math.specs.Checked.{SumFits, ProductFits}
use Rattle.frac_math.specs.Reduced.{IsReduced, over-numerator, over-denominator}
use Rattle.frac_math.proofs.FractionRing.{cross_same, add_comm, add-zero, mul_comm, mul-zero}

-- both numbers of a fraction fit
pub record IsWithin (x : ℚ) : Type 0 where
  pub numerator : FitsSigned w128 x.numerator
  pub denominator : FitsSigned w128 (pos x.denominator)

pub is_within : (num den : ℤ) (x : ℚ) → IsReduced num den → FitsSigned w128 num → FitsSigned w128 den → over num (unsigned_abs den) ≡ x
    → IsWithin x
is_within num den x lowest n d is = record {
  numerator = subst (λ z. FitsSigned w128 z) (sym (over-numerator num den lowest) ∙ ap (λ y. y.numerator) is) n;
  denominator = subst (λ z. FitsSigned w128 z) (sym (over-denominator num den lowest) ∙ ap (λ y. pos y.denominator) is) d;
}

-- a numerator whose bits are 0
pub is_zero : (num den : ℤ) (x : ℚ) → IsReduced num den → FitsSigned w128 num → over num (unsigned_abs den) ≡ x → of_z w128 num ≡ 0
    → x ≡ whole (pos 0)
is_zero num den x lowest n is bits =
    let none : x.numerator ≡ pos 0 =
    sym (ap (λ y. y.numerator) is) ∙ over-numerator num den lowest ∙ sym (to_z-of_z w128 num n) ∙ ap (to_z w128) bits in
    cross_same x (whole (pos 0)) (omega (arith, ints, none))

-- a number times 1, and 0 times a number
times_one : (z : ℤ) → z ≡ z *ℤ pos 1
times_one z = omega (arith, ints)

zero_fits : FitsSigned w128 (pos 0)
zero_fits = fits_signed_from_abs w128 (pos 0) (omega arith)

zero_times : (z : ℤ) → pos 0 ≡ pos 0 *ℤ z
zero_times z = omega (arith, ints)

times_zero : (z : ℤ) → pos 0 ≡ z *ℤ pos 0
times_zero z = omega (arith, ints)

fits : (z w : ℤ) → z ≡ w → FitsSigned w128 z → FitsSigned w128 w
fits z w same f = subst (λ v. FitsSigned w128 v) same f

sum_fits : (x : ℚ) → IsWithin x → SumFits x (whole (pos 0))
sum_fits x within = record {
  left = fits _ _ (times_one x.numerator) within.numerator;
  right = fits _ _ (zero_times (pos x.denominator)) zero_fits;
  sum = fits _ _ (omega (arith, ints)) within.numerator;
  denominator = fits _ _ (times_one (pos x.denominator)) within.denominator;
}

-- x + 0 and 0 + x are x
pub plus_zero : (x y : ℚ) → IsWithin x → y ≡ whole (pos 0) → SumFits x y × (x ≡ x +ℚ y)
plus_zero x y within none = subst (λ w. SumFits x w × (x ≡ x +ℚ w)) (sym none) (sum_fits x within, sym (add-zero x))

other_sum_fits : (x : ℚ) → IsWithin x → SumFits (whole (pos 0)) x
other_sum_fits x within = record {
  left = fits _ _ (zero_times (pos x.denominator)) zero_fits;
  right = fits _ _ (times_one x.numerator) within.numerator;
  sum = fits _ _ (omega (arith, ints)) within.numerator;
  denominator = fits _ _ (omega (arith, ints)) within.denominator;
}

pub zero_plus : (x y : ℚ) → IsWithin y → x ≡ whole (pos 0) → SumFits x y × (y ≡ x +ℚ y)
zero_plus x y within none = subst (λ w. SumFits w y × (y ≡ w +ℚ y)) (sym none)
    (other_sum_fits y within, sym (add_comm (whole (pos 0)) y ∙ add-zero y))

-- x * 0 and 0 * x are 0
product_fits : (x : ℚ) → IsWithin x → ProductFits x (whole (pos 0))
product_fits x within = record {
  numerator = fits _ _ (times_zero x.numerator) zero_fits;
  denominator =
      fits _ _ (times_one (pos x.denominator)) within.denominator;
}

pub times_nothing : (x y : ℚ) → IsWithin x → y ≡ whole (pos 0) → ProductFits x y × (y ≡ x *ℚ y)
times_nothing x y within none = subst (λ w. ProductFits x w × (w ≡ x *ℚ w)) (sym none) (product_fits x within, sym (mul-zero x))

other_product_fits : (x : ℚ) → IsWithin x → ProductFits (whole (pos 0)) x
other_product_fits x within = record {
  numerator = fits _ _ (zero_times x.numerator) zero_fits;
  denominator =
      fits _ _ (omega (arith, ints)) within.denominator;
}

pub nothing_times : (x y : ℚ) → IsWithin y → x ≡ whole (pos 0) → ProductFits x y × (x ≡ x *ℚ y)
nothing_times x y within none =
    subst (λ w. ProductFits w y × (w ≡ w *ℚ y)) (sym none) (other_product_fits y within, sym (mul_comm (whole (pos 0)) y ∙ mul-zero y))
