-- Two numbers in lowest terms, and that they come back from the fraction that they stand for.
use Rattle.std.specs.Prelude.{◌≡◌, zero, suc, ℤ, pos, negsuc, ◌<ℤ◌, unsigned_abs}
use Rattle.std.proofs.Common.{ap}
use Rattle.frac_math.specs.Gcd.{gcd}
use Rattle.frac_math.specs.Fraction.{over}
use Rattle.frac_math.specs.LowestTerms

-- d is positive, and only 1 divides both n and d
pub record IsReduced (n d : ℤ) : Type 0 where
  pub positive : pos 0 <ℤ d
  pub lowest : gcd (unsigned_abs n) (unsigned_abs d) ≡ 1

pub over-numerator : (n d : ℤ) → IsReduced n d → (over n (unsigned_abs d)).numerator ≡ n
unfolding over
over-numerator n (pos zero) h = absurd h.positive.lt
over-numerator n (pos (suc d)) h = LowestTerms.numerator_back n (suc d) h.lowest
over-numerator n (negsuc d) h = absurd h.positive.lt

pub over-denominator : (n d : ℤ) → IsReduced n d → pos (over n (unsigned_abs d)).denominator ≡ d
unfolding over
over-denominator n (pos zero) h = absurd h.positive.lt
over-denominator n (pos (suc d)) h = ap pos (LowestTerms.denominator_back n (suc d) h.lowest)
over-denominator n (negsuc d) h = absurd h.positive.lt
