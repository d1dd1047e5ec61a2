-- What it is for values to lie within ranges, and for numbers to have the bits of their type.
use Rattle.std.specs.Prelude.{◌≡◌, ◌<◌, ℕ, ◌^◌, true, if◌then◌else◌, List, sum, IfSome}
use Rattle.frac_math.specs.Fraction.{ℚ, nat, ◌≤ℚ◌}
use Rattle.op_list.specs.declared.types.Stage.{Stage}
use Rattle.op_list.specs.declared.op.Op.{Op}
use Rattle.op_list.specs.declared.op.Op.TheVariants.{Read, Write, SwapBytes, Unpack, Pack, Clear, LeftShift, RightShift, Swizzle}
use Rattle.op_list.specs.declared.op.Op.TheVariants.{Convert, Dither, Linear, Scale, Min, Max}
use Rattle.op_list.specs.declared.values.Values.{Values}
use Rattle.op_list.specs.Types.{bits_at}
use Rattle.op_list.specs.Values.{number, fraction, are_fractions}
use Rattle.op_range.specs.declared.range.ValueRange.{ValueRange}
use Rattle.op_range.specs.Ranges.{range_in, is_whole_number}

-- value i as a fraction, of either kind
abbrev pub value_of : Values → ℕ → ℚ
value_of values i = if are_fractions values then fraction values i else nat (number values i)

-- x lies between the bounds that are there, and is whole where the range says so
pub record IsWithin (r : ValueRange) (x : ℚ) : Type 0 where
  pub above : IfSome r.least (λ low. low ≤ℚ x)
  pub below : IfSome r.greatest (λ high. x ≤ℚ high)
  pub integral : r.whole ≡ true → is_whole_number x ≡ true

-- the first values, so many of them, lie within their ranges
pub record FirstAreWithin (count : ℕ) (ranges : List ValueRange) (values : Values) : Type 0 where
  pub each : (i : ℕ) → i < count → IsWithin (range_in ranges i) (value_of values i)

-- all four do
abbrev pub AreWithin : List ValueRange → Values → Type 0
AreWithin ranges values = FirstAreWithin 4 ranges values

-- the values that an operation leaves for what follows: all four, but after a Write those that are written
abbrev pub value_count : Op → ℕ
value_count (Read elem planes palette) = 4
value_count (Write elem planes) = sum planes
value_count SwapBytes = 4
value_count (Unpack widths) = 4
value_count (Pack widths) = 4
value_count (Clear entries) = 4
value_count (LeftShift n) = 4
value_count (RightShift n) = 4
value_count (Swizzle from) = 4
value_count (Convert to expand) = 4
value_count (Dither k) = 4
value_count (Linear rows) = 4
value_count (Scale by) = 4
value_count (Min limits) = 4
value_count (Max limits) = 4

-- the numbers of a whole type are below 2^bits
pub record AreSmall (stage : Stage) (values : Values) : Type 0 where
  pub each : (i : ℕ) → i < 4 → number values i < 2 ^ bits_at stage
