-- The same in fractions whose numbers have to fit in 128 bits: none where one of them does not.
use Rattle.std.specs.Prelude.{ℕ, List, Option, Some}
use Rattle.std.specs.Option.{option_map, option_and_then}
use Rattle.frac_math.specs.Fraction.{ℚ}
use Rattle.frac_math.specs.Checked.{checked_sum, checked_product}
use Rattle.op_list.specs.declared.types.Stage.{Stage}
use Rattle.op_list.specs.declared.position.PixelPosition.{PixelPosition}
use Rattle.op_list.specs.declared.op.Op.{Op}
use Rattle.op_list.specs.declared.op.Op.TheVariants.{Read, Write, SwapBytes, Unpack, Pack, Clear, LeftShift, RightShift, Swizzle, Convert}
use Rattle.op_list.specs.declared.op.Op.TheVariants.{Dither, Linear, Scale, Min, Max}
use Rattle.op_list.specs.declared.values.Values.{Values}
use Rattle.op_list.specs.declared.values.Values.TheVariants.{Fractions}
use Rattle.op_list.specs.Values.{all_four, fraction, fraction_in}
use Rattle.op_list.specs.Apply.{apply, row_of}
use Rattle.frac_math.specs.Dither.{dither_at}

-- a sum and the next product of a row
abbrev pub checked_term : List ℚ → Values → ℕ → ℚ → Option ℚ
checked_term row values i total = option_and_then (λ term. checked_sum total term) (checked_product (fraction_in row i) (fraction values i))

-- the products in order, each added to the sum so far, which starts with the constant
unfoldable pub checked_row : List ℚ → Values → Option ℚ
checked_row row values =
    option_and_then (checked_term row values 3) (option_and_then (checked_term row values 2)
    (option_and_then (checked_term row values 1) (checked_term row values 0 (fraction_in row 4))))

-- Sums and products of fractions have to fit; what forms no new fraction is exact.
unfoldable pub checked_apply : List ℕ → PixelPosition → Stage → Op → Values → Option Values
checked_apply frame position stage (Read elem planes palette) values = Some (apply frame position stage (Read elem planes palette) values)
checked_apply frame position stage (Write elem planes) values = Some (apply frame position stage (Write elem planes) values)
checked_apply frame position stage SwapBytes values = Some (apply frame position stage SwapBytes values)
checked_apply frame position stage (Unpack widths) values = Some (apply frame position stage (Unpack widths) values)
checked_apply frame position stage (Pack widths) values = Some (apply frame position stage (Pack widths) values)
checked_apply frame position stage (Clear entries) values = Some (apply frame position stage (Clear entries) values)
checked_apply frame position stage (LeftShift n) values = Some (apply frame position stage (LeftShift n) values)
checked_apply frame position stage (RightShift n) values = Some (apply frame position stage (RightShift n) values)
checked_apply frame position stage (Swizzle from) values = Some (apply frame position stage (Swizzle from) values)
checked_apply frame position stage (Convert to expand) values = Some (apply frame position stage (Convert to expand) values)
checked_apply frame position stage (Dither k) values =
    option_map Fractions (all_four (λ i. checked_sum (fraction values i) (dither_at k position.x position.y)))
checked_apply frame position stage (Linear rows) values =
    option_map Fractions (all_four (λ i. checked_row (row_of rows i) values))
checked_apply frame position stage (Scale by) values =
    option_map Fractions (all_four (λ i. checked_product (fraction values i) by))
checked_apply frame position stage (Min limits) values = Some (apply frame position stage (Min limits) values)
checked_apply frame position stage (Max limits) values = Some (apply frame position stage (Max limits) values)
