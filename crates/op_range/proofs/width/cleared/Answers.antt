use Rattle.std.proofs.Common.{◌∙◌}
use Rattle.op_list.specs.Values.{entry}
use Rattle.op_range.specs.Width.{entries_denominator, cleared_size, size_in}
use Rattle.op_range.proofs.Capping.{too_wide}
use Rattle.op_range.proofs.width.cleared.Goals as goal

pub returns-in_err-e : goal.returns-in_err-e
returns-in_err-e c =
    c.from_residual.ensures
    ∙ too_wide c.args.width.now.denominator (entries_denominator c.args.entries.now)
    (λ i. cleared_size (entries_denominator c.args.entries.now) c.args.width.now.denominator (entry c.args.entries.now i)
    (size_in c.args.width.now i))
    c.entries_denominator.result c.requires c.entries_denominator.ensures (c.in_err-e.was {u = tt})
