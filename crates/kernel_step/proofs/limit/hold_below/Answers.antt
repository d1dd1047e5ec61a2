use Rattle.std.proofs.Common.{◌+◌, ◌*◌, ◌*ℤ◌, ◌∙◌, slice_index_or}
use Rattle.kernel_step.specs.Forms.{factor}
use Rattle.kernel_step.proofs.LimitSteps.{nearest_below}
use Rattle.kernel_step.proofs.limit.hold_below.Goals as goal

pub returns-clause-set : goal.returns-clause-set
returns-clause-set g c =
    λ i d within.
    (rw (c.greatest_of.ensures, c.scale.ensures.set i d within) at (c.change_part.ensures.set i d within))
    ∙ nearest_below c.args.new.now.least c.args.new.now.greatest (factor c.args.factors.now 0
    *ℤ g.N.Numerator.value (slice_index_or c.args.numbers.now (64 * c.args.v + i) d))
    (c.requires.above i d within)
