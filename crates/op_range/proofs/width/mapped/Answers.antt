use Rattle.std.proofs.Common.{◌∙◌}
use Rattle.op_list.specs.Apply.{row_of}
use Rattle.op_range.specs.Width.{rows_denominator, row_size}
use Rattle.op_range.proofs.Capping.{too_wide}
use Rattle.op_range.proofs.width.mapped.Goals as goal

pub returns-in_err-e : goal.returns-in_err-e
returns-in_err-e c =
    c.from_residual.ensures
    ∙ too_wide c.args.width.now.denominator (rows_denominator c.args.rows.now)
    (λ i. row_size (rows_denominator c.args.rows.now) (row_of c.args.rows.now i) c.args.width.now) c.rows_denominator.result c.requires
    c.rows_denominator.ensures (c.in_err-e.was {u = tt})
