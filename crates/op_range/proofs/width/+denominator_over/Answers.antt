use Rattle.std.proofs.Common.{◌∙◌}
use Rattle.op_range.proofs.Capping.{none_over}
use Rattle.op_range.proofs.width.+denominator_over.Goals as goal

pub returns-in_err-denominator_over-in-len1-up : goal.returns-in_err-denominator_over-in-len1-up
returns-in_err-denominator_over-in-len1-up t c =
    c.from_residual.ensures
    ∙ none_over c.args.e c.args.xs.now c.denominator_over.result c.in-len1-up.len_at_least c.denominator_over.ensures
    (c.in_err-denominator_over-in-len1-up.was {u = tt})
