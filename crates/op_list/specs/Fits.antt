-- Where the checked steps of a list have an answer: all numbers that they form fit 128 bits.
use Rattle.std.specs.Prelude.{ℕ, ◌<◌, List, [], ◌∷◌}
use Rattle.frac_math.specs.Fraction.{ℚ, ◌+ℚ◌}
use Rattle.frac_math.specs.Checked.{SumFits, ProductFits}
use Rattle.frac_math.specs.Dither.{dither_at}
use Rattle.op_list.specs.declared.types.Stage.{Stage}
use Rattle.op_list.specs.declared.position.PixelPosition.{PixelPosition}
use Rattle.op_list.specs.declared.op.Op.{Op}
use Rattle.op_list.specs.declared.op.Op.TheVariants.{Read, Write, SwapBytes, Unpack, Pack, Clear, LeftShift, RightShift, Swizzle, Convert}
use Rattle.op_list.specs.declared.op.Op.TheVariants.{Dither, Linear, Scale, Min, Max}
use Rattle.op_list.specs.declared.values.Values.{Values}
use Rattle.op_list.specs.Values.{fraction, fraction_in}
use Rattle.op_list.specs.Typing.{stage_after}
use Rattle.op_list.specs.Apply.{apply, product, row_of}

-- the products of a row, each with the sum so far
pub record RowFits (row : List ℚ) (values : Values) : Type 0 where
  pub product0 : ProductFits (fraction_in row 0) (fraction values 0)
  pub sum0 : SumFits (fraction_in row 4) (product row values 0)
  pub product1 : ProductFits (fraction_in row 1) (fraction values 1)
  pub sum1 : SumFits (fraction_in row 4 +ℚ product row values 0) (product row values 1)
  pub product2 : ProductFits (fraction_in row 2) (fraction values 2)
  pub sum2 : SumFits (fraction_in row 4 +ℚ product row values 0 +ℚ product row values 1) (product row values 2)
  pub product3 : ProductFits (fraction_in row 3) (fraction values 3)
  pub sum3 : SumFits (fraction_in row 4 +ℚ product row values 0 +ℚ product row values 1 +ℚ product row values 2) (product row values 3)

-- the steps of an operation at a position: what forms no new fraction fits
abbrev pub StepFits : PixelPosition → Op → Values → Type 0
StepFits position (Read elem planes palette) values = Unit {0}
StepFits position (Write elem planes) values = Unit {0}
StepFits position SwapBytes values = Unit {0}
StepFits position (Unpack widths) values = Unit {0}
StepFits position (Pack widths) values = Unit {0}
StepFits position (Clear entries) values = Unit {0}
StepFits position (LeftShift n) values = Unit {0}
StepFits position (RightShift n) values = Unit {0}
StepFits position (Swizzle from) values = Unit {0}
StepFits position (Convert to expand) values = Unit {0}
StepFits position (Dither k) values = (i : ℕ) → i < 4 → SumFits (fraction values i) (dither_at k position.x position.y)
StepFits position (Linear rows) values = (i : ℕ) → i < 4 → RowFits (row_of rows i) values
StepFits position (Scale by) values = (i : ℕ) → i < 4 → ProductFits (fraction values i) by
StepFits position (Min limits) values = Unit {0}
StepFits position (Max limits) values = Unit {0}

-- the steps of some operations, one after the other
abbrev pub StepsFit : List ℕ → PixelPosition → Stage → List Op → Values → Type 0
StepsFit frame position stage [] values = Unit {0}
StepsFit frame position stage (op ∷ ops) values =
    StepFits position op values × StepsFit frame position (stage_after stage op) ops (apply frame position stage op values)
