-- Where all numbers fit, the checked steps have an answer.
use Rattle.std.proofs.Common.{◌≡◌, ℕ, ◌<◌, List, [], ◌∷◌, refl, arith}
use Rattle.std.specs.Prelude.{Option, Some}
use Rattle.std.specs.Option.{option_map}
use Rattle.frac_math.specs.Fraction.{ℚ, ◌+ℚ◌, ◌*ℚ◌}
use Rattle.frac_math.specs.Checked.{checked_sum, checked_product, SumFits, ProductFits}
use Rattle.frac_math.proofs.CheckedCalls.{checked_sum_some, checked_product_some}
use Rattle.frac_math.specs.Dither.{dither_at}
use Rattle.op_list.specs.declared.types.Stage.{Stage}
use Rattle.op_list.specs.declared.position.PixelPosition.{PixelPosition}
use Rattle.op_list.specs.declared.op.Op.{Op}
use Rattle.op_list.specs.declared.op.Op.TheVariants.{Dither, Linear, Scale}
use Rattle.op_list.specs.declared.values.Values.{Values}
use Rattle.op_list.specs.declared.values.Values.TheVariants.{Fractions}
use Rattle.op_list.specs.Values.{four, all_four, fraction, fraction_in}
use Rattle.op_list.specs.Typing.{stage_after}
use Rattle.op_list.specs.Apply.{apply, product, row_of, row_value}
use Rattle.op_list.specs.Checked.{checked_apply, checked_row, checked_term}
use Rattle.op_list.specs.Run.{run_from, checked_run_from}
use Rattle.op_list.specs.Fits.{RowFits, StepFits, StepsFit}

pub all_four-some : {A : Type 0} (f : ℕ → Option A) (g : ℕ → A) → ((i : ℕ) → i < 4 → f i ≡ Some (g i)) → all_four f ≡ Some (four g)
all_four-some f g h = rw (h 0 (omega arith), h 1 (omega arith), h 2 (omega arith), h 3 (omega arith)) refl

checked_term-some : (row : List ℚ) (values : Values) (i : ℕ) (total : ℚ) → ProductFits (fraction_in row i) (fraction values i)
    → SumFits total (product row values i)
    → checked_term row values i total ≡ Some (total +ℚ product row values i)
checked_term-some row values i total p q = rw (checked_product_some _ _ p) (checked_sum_some total (product row values i) q)

pub checked_row-some : (row : List ℚ) (values : Values) → RowFits row values → checked_row row values ≡ Some (row_value row values)
unfolding checked_row
checked_row-some row values h =
    rw (
      checked_term-some row values 0 (fraction_in row 4) h.product0 h.sum0,
      checked_term-some row values 1 (fraction_in row 4 +ℚ product row values 0) h.product1 h.sum1,
      checked_term-some row values 2 (fraction_in row 4 +ℚ product row values 0 +ℚ product row values 1) h.product2 h.sum2,
    )
    (checked_term-some row values 3
    (fraction_in row 4 +ℚ product row values 0 +ℚ product row values 1 +ℚ product row values 2) h.product3 h.sum3)

-- ---- an operation
fractions-some : (f : ℕ → Option ℚ) (g : ℕ → ℚ) → ((i : ℕ) → i < 4 → f i ≡ Some (g i))
    → option_map Fractions (all_four f) ≡ Some (Fractions (four g))
fractions-some f g h = rw (all_four-some f g h) refl

pub checked_apply-some : (frame : List ℕ) (position : PixelPosition) (stage : Stage) (op : Op) (values : Values)
    → StepFits position op values → checked_apply frame position stage op values ≡ Some (apply frame position stage op values)
unfolding checked_apply apply
checked_apply-some frame position stage (Dither k) values h =
    fractions-some (λ i. checked_sum (fraction values i) (dither_at k position.x position.y))
    (λ i. fraction values i +ℚ dither_at k position.x position.y) (λ i within. checked_sum_some _ _ (h i within))
checked_apply-some frame position stage (Linear rows) values h =
    fractions-some (λ i. checked_row (row_of rows i) values) (λ i. row_value (row_of rows i) values)
    (λ i within. checked_row-some (row_of rows i) values (h i within))
checked_apply-some frame position stage (Scale by) values h =
    fractions-some (λ i. checked_product (fraction values i) by) (λ i. fraction values i *ℚ by)
    (λ i within. checked_product_some _ _ (h i within))
checked_apply-some frame position stage op values h = refl

-- ---- a list
pub checked_run_from-some : (frame : List ℕ) (position : PixelPosition) (stage : Stage) (ops : List Op) (values : Values)
    → StepsFit frame position stage ops values
    → checked_run_from frame position stage ops values ≡ Some (run_from frame position stage ops values)
unfolding checked_run_from run_from
checked_run_from-some frame position stage [] values h = refl
checked_run_from-some frame position stage (op ∷ ops) values h =
    rw (checked_apply-some frame position stage op values h.0)
    (checked_run_from-some frame position (stage_after stage op) ops (apply frame position stage op values) h.1)
