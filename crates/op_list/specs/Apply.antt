-- The exact meaning of an operation, over whole numbers and fractions of any size.
use Rattle.std.specs.Prelude.{ℕ, ◌+◌, ◌*◌, ◌/◌, ◌%◌, ◌^◌, Bool, if◌then◌else◌, nat_lt, List, [], ◌∷◌, sum, slice_index, slice_index_or}
use Rattle.std.specs.Prelude.{Option, Some, None, unsigned_abs}
use Rattle.frac_math.specs.Fraction.{ℚ, nat, ◌+ℚ◌, ◌*ℚ◌, min_ℚ, max_ℚ, floor}
use Rattle.op_list.specs.declared.types.PixType.{PixType}
use Rattle.op_list.specs.declared.types.PixType.TheVariants.{Rat}
use Rattle.op_list.specs.declared.types.Stage.{Stage}
use Rattle.op_list.specs.declared.position.PixelPosition.{PixelPosition}
use Rattle.op_list.specs.declared.op.Op.{Op}
use Rattle.op_list.specs.declared.op.Op.TheVariants.{Read, Write, SwapBytes, Unpack, Pack, Clear, LeftShift, RightShift, Swizzle, Convert}
use Rattle.op_list.specs.declared.op.Op.TheVariants.{Dither, Linear, Scale, Min, Max}
use Rattle.op_list.specs.declared.values.Values.{Values}
use Rattle.op_list.specs.declared.values.Values.TheVariants.{Numbers, Fractions}
use Rattle.op_list.specs.Types.{bits, bits_at}
use Rattle.op_list.specs.Values.{four, number, fraction, fraction_in, entry}
use Rattle.op_list.specs.Whole.{reversed_bytes, field, placed, modulo}
use Rattle.op_list.specs.Pixel.{read_values}
use Rattle.frac_math.specs.Dither.{dither_at}

-- the first elements, and 0 for the others
abbrev pub written : List ℕ → Values → ℕ → ℕ
written planes values i = if nat_lt i (sum planes) then number values i else 0

-- the values as the fields of one number
abbrev pub packed : List ℕ → Values → ℕ
packed widths values =
    placed widths (number values 0) 0 + placed widths (number values 1) 1 + placed widths (number values 2) 2 + placed widths
    (number values 3) 3

-- the entry where one is given, else the value
abbrev pub cleared_number : Option ℚ → ℕ → ℕ
cleared_number None value = value
cleared_number (Some x) value = unsigned_abs x.numerator

abbrev pub cleared_fraction : Option ℚ → ℚ → ℚ
cleared_fraction None value = value
cleared_fraction (Some x) value = x

abbrev pub cleared : List (Option ℚ) → Values → Values
cleared entries (Numbers values) = Numbers (four (λ i. cleared_number (entry entries i) (slice_index values i)))
cleared entries (Fractions values) = Fractions (four (λ i. cleared_fraction (entry entries i) (fraction_in values i)))

-- new value i is old value from[i]
abbrev pub swizzled : List ℕ → Values → Values
swizzled from (Numbers values) = Numbers (four (λ i. slice_index values (slice_index from i)))
swizzled from (Fractions values) = Fractions (four (λ i. fraction_in values (slice_index from i)))

-- as whole numbers modulo 2^bits: a whole number, times 257 to expand it, and the floor of a fraction
abbrev pub as_numbers : Bool → ℕ → Values → Values
as_numbers expand count (Numbers values) = Numbers (four (λ i. slice_index values i * (if expand then 257 else 1) % 2 ^ count))
as_numbers expand count (Fractions values) = Numbers (four (λ i. modulo (floor (fraction_in values i)) (2 ^ count)))

-- the values in another type: as fractions they are the same
abbrev pub converted : PixType → Bool → Values → Values
converted Rat expand (Numbers values) = Fractions (four (λ i. nat (slice_index values i)))
converted Rat expand (Fractions values) = Fractions values
converted to expand values = as_numbers expand (bits to) values

-- row[0] v0 + row[1] v1 + row[2] v2 + row[3] v3 + row[4]
abbrev pub product : List ℚ → Values → ℕ → ℚ
product row values i = fraction_in row i *ℚ fraction values i

abbrev pub row_value : List ℚ → Values → ℚ
row_value row values = fraction_in row 4 +ℚ product row values 0 +ℚ product row values 1 +ℚ product row values 2 +ℚ product row values 3

abbrev pub row_of : List (List ℚ) → ℕ → List ℚ
row_of rows i = slice_index_or rows i []

-- the lesser, or the greater, of value and limit, where one is given
abbrev pub at_most : Option ℚ → ℚ → ℚ
at_most None value = value
at_most (Some limit) value = min_ℚ value limit

abbrev pub at_least : Option ℚ → ℚ → ℚ
at_least None value = value
at_least (Some limit) value = max_ℚ value limit

-- what an operation makes of four values at a position of a frame
unfoldable pub apply : List ℕ → PixelPosition → Stage → Op → Values → Values
apply frame position stage (Read elem planes palette) values = Numbers (read_values elem planes palette frame position)
apply frame position stage (Write elem planes) values = Numbers (four (λ i. written planes values i))
apply frame position stage SwapBytes values = Numbers (four (λ i. reversed_bytes (bits_at stage / 8) (number values i)))
apply frame position stage (Unpack widths) values = Numbers (four (λ i. field widths (number values 0) i))
apply frame position stage (Pack widths) values = Numbers (packed widths values ∷ 0 ∷ 0 ∷ 0 ∷ [])
apply frame position stage (Clear entries) values = cleared entries values
apply frame position stage (LeftShift n) values = Numbers (four (λ i. number values i * 2 ^ n % 2 ^ bits_at stage))
apply frame position stage (RightShift n) values = Numbers (four (λ i. number values i / 2 ^ n))
apply frame position stage (Swizzle from) values = swizzled from values
apply frame position stage (Convert to expand) values = converted to expand values
apply frame position stage (Dither k) values = Fractions (four (λ i. fraction values i +ℚ dither_at k position.x position.y))
apply frame position stage (Linear rows) values = Fractions (four (λ i. row_value (row_of rows i) values))
apply frame position stage (Scale by) values = Fractions (four (λ i. fraction values i *ℚ by))
apply frame position stage (Min limits) values = Fractions (four (λ i. at_most (entry limits i) (fraction values i)))
apply frame position stage (Max limits) values = Fractions (four (λ i. at_least (entry limits i) (fraction values i)))
