use Rattle.std.proofs.Common.{◌∙◌}
use Rattle.op_list.specs.Values.{entry}
use Rattle.op_range.specs.Width.{entries_denominator, limited_size, size_in}
use Rattle.op_range.proofs.Capping.{too_wide}
use Rattle.op_range.proofs.width.limited.Goals as goal

pub returns-in_err-e : goal.returns-in_err-e
returns-in_err-e c =
    c.from_residual.ensures
    ∙ too_wide c.args.width.now.denominator (entries_denominator c.args.limits.now)
    (λ i. limited_size (entries_denominator c.args.limits.now) c.args.width.now.denominator (entry c.args.limits.now i)
    (size_in c.args.width.now i))
    c.entries_denominator.result c.requires c.entries_denominator.ensures (c.in_err-e.was {u = tt})
