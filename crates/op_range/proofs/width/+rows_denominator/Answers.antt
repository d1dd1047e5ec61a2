use Rattle.std.proofs.Common.{◌∙◌}
use Rattle.op_range.proofs.Capping.{none_rows}
use Rattle.op_range.proofs.width.+rows_denominator.Goals as goal

pub returns-in_err-rows_denominator-in-len1-up : goal.returns-in_err-rows_denominator-in-len1-up
returns-in_err-rows_denominator-in-len1-up t c =
    c.from_residual.ensures
    ∙ none_rows c.args.rows.now c.rows_denominator.result c.in-len1-up.len_at_least c.rows_denominator.ensures
    (c.in_err-rows_denominator-in-len1-up.was {u = tt})
