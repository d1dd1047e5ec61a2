-- The ratio of two numbers that fit, over a positive divisor: the checked call has it as its answer.
use Rattle.std.proofs.Common.{◌≡◌, ℕ, zero, suc, ◌<◌, ℤ, pos, ◌<ℤ◌, subst, arith, unsigned_abs}
use Rattle.std.specs.Prelude.{Option, Some}
use Rattle.std.specs.Option.{SomeIff}
use Rattle.std.specs.Int.{w128, cast_signed, cast_unsigned}
use Rattle.std.specs.Int.RustNames.{FitsSigned}
use Rattle.std.proofs.lemmas.Int.{ints, to_z-of_z, quot_fits}
use Rattle.frac_math.specs.Gcd.{gcd}
use Rattle.frac_math.specs.LowestTerms.{gcd_pos}
use Rattle.frac_math.specs.Fraction.{ℚ, over, ratio}
use Rattle.frac_math.specs.Checked.{RatioFits}
use Rattle.frac_math.proofs.CheckedCalls.{some_where}

-- the lowest terms are no greater than the terms
pub ratio_fits : (n : ℤ) (d : ℕ) → 0 < d → FitsSigned w128 n → FitsSigned w128 (pos d) → RatioFits n (pos d)
unfolding ratio over
ratio_fits n zero h p q = absurd (omega arith)
ratio_fits n (suc d) h p q =
    let g = gcd (unsigned_abs n) (suc d) in
    let positive : pos 0 <ℤ pos g = (let s = gcd_pos (unsigned_abs n) (suc d) h in omega (arith, ints)) in
    record {
      divisor = λ e. absurd (omega (arith, ints, e));
      numerator = quot_fits w128 n (pos g) p positive;
      denominator = quot_fits w128 (pos (suc d)) (pos g) q positive;
    }

-- what the call answers for two numbers that are known
pub ratio_known : (r : Option ℚ) (n m e : ℤ) (d : ℕ) → FitsSigned w128 n → FitsSigned w128 e → n ≡ m → e ≡ pos d → 0 < d
    → SomeIff r (RatioFits (cast_signed w128 (cast_unsigned w128 n)) (cast_signed w128 (cast_unsigned w128 e)))
    (ratio (cast_signed w128 (cast_unsigned w128 n)) (cast_signed w128 (cast_unsigned w128 e)))
    → r ≡ Some (over m d)
unfolding ratio
ratio_known r n m e d f g p q h s =
    some_where r (RatioFits m (pos d)) (over m d)
    (rw (to_z-of_z w128 n f, to_z-of_z w128 e g, p, q) at s)
    (ratio_fits m d h (subst (λ z. FitsSigned w128 z) p f) (subst (λ z. FitsSigned w128 z) q g))
