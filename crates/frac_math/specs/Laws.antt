-- The laws of the definitions, which the functions of src/laws.rt prove.
use Rattle.std.specs.Prelude.{◌≡◌, ℕ, ◌%◌, ◌^◌, ◌<◌, ℤ, ◌≤ℤ◌, ◌↔◌, IsTrue}
use Rattle.std.specs.Option.{SomeIff}
use Rattle.std.specs.Ordering.{MatchOrdering}
use Rattle.frac_math.specs.Fraction.{ℚ, whole, nat, ratio, floor, order, equal_ℚ, ◌+ℚ◌, ◌*ℚ◌, ◌/ℚ◌, ◌≤ℚ◌, ◌<ℚ◌}
use Rattle.frac_math.specs.Checked.{RatioFits, SumFits, ProductFits, QuotientFits, checked_ratio, checked_sum, checked_product}
use Rattle.frac_math.specs.Checked.{checked_quotient}
use Rattle.frac_math.specs.Dither.{dither_at}

-- each checked call has the exact answer where its numbers fit, and no answer elsewhere
pub record IsCheckedExactly : Type 0 where
  pub ratio : (n d : ℤ) → SomeIff (checked_ratio n d) (RatioFits n d) (ratio n d)
  pub sum : (x y : ℚ) → SomeIff (checked_sum x y) (SumFits x y) (x +ℚ y)
  pub product : (x y : ℚ) → SomeIff (checked_product x y) (ProductFits x y) (x *ℚ y)
  pub quotient : (x y : ℚ) → SomeIff (checked_quotient x y) (QuotientFits x y) (x /ℚ y)

-- the test of equality and the order are those of the values
pub record IsComparedExactly : Type 0 where
  pub equal : (x y : ℚ) → IsTrue (equal_ℚ x y) ↔ (x ≡ y)
  pub order : (x y : ℚ) → MatchOrdering (order x y) (x <ℚ y) (x ≡ y) (y <ℚ x)

-- the floor is the greatest whole number that is not above
pub record FloorIsGreatest : Type 0 where
  pub below : (x : ℚ) → whole (floor x) ≤ℚ x
  pub greatest : (x : ℚ) (z : ℤ) → whole z ≤ℚ x → z ≤ℤ floor x

-- the dither lies strictly between 0 and 1
abbrev pub DitherIsInside : Type 0
DitherIsInside = (k x y : ℕ) → (nat 0 <ℚ dither_at k x y) × (dither_at k x y <ℚ nat 1)

-- a whole number with the dither added has that number as its floor
abbrev pub DitherKeepsWhole : Type 0
DitherKeepsWhole = (k x y : ℕ) (z : ℤ) → floor (whole z +ℚ dither_at k x y) ≡ z

-- the dither repeats after 2 ^ k pixels in each direction
abbrev pub DitherRepeats : Type 0
DitherRepeats = (k x y : ℕ) → dither_at k (x % 2 ^ k) (y % 2 ^ k) ≡ dither_at k x y

-- no two pixels of a square of 2 ^ k by 2 ^ k have the same dither
abbrev pub DitherIsDistinct : Type 0
DitherIsDistinct = (k x y u v : ℕ) → x < 2 ^ k → y < 2 ^ k → u < 2 ^ k → v < 2 ^ k → dither_at k x y ≡ dither_at k u v → (x ≡ u) × (y ≡ v)
