-- A fraction and two numbers whose quotient it is, in lowest terms or not.
use Rattle.std.specs.Prelude.{◌≡◌, ℕ, ◌<◌, ℤ, pos, ◌*ℤ◌}
use Rattle.frac_math.specs.Fraction.{ℚ}

-- x stands for n/d
pub record Stands (x : ℚ) (n : ℤ) (d : ℕ) : Type 0 where
  pub positive : 0 < d
  pub cross : x.numerator *ℤ pos d ≡ n *ℤ pos x.denominator
