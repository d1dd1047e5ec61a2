use Rattle.std.proofs.Common.{◌∙◌}
use Rattle.op_range.proofs.Capping.{none_entries}
use Rattle.op_range.proofs.width.+entries_denominator.Goals as goal

pub returns-in_err-entries_denominator-in-len1-up : goal.returns-in_err-entries_denominator-in-len1-up
returns-in_err-entries_denominator-in-len1-up t c =
    c.from_residual.ensures
    ∙ none_entries c.args.entries.now c.entries_denominator.result c.in-len1-up.len_at_least c.entries_denominator.ensures
    (c.in_err-entries_denominator-in-len1-up.was {u = tt})
