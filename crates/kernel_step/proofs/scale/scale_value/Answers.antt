use Rattle.std.proofs.Common.{◌+◌, ◌*◌, slice_index_or}
use Rattle.kernel_step.specs.Forms.{factor}
use Rattle.kernel_step.proofs.ScaleSteps.{scaling, scaling_fits, scaling_product}
use Rattle.kernel_step.proofs.scale.scale_value.Goals as goal

pub scale-requires-clause-factor : goal.scale-requires-clause-factor
scale-requires-clause-factor g c = scaling_fits g.N.Numerator.width c.args.old.now c.args._new.now c.args._by.now
    (factor c.args.factors.now 0) c.requires.is

pub scale-requires-clause-fits : goal.scale-requires-clause-fits
scale-requires-clause-fits g c = λ i d below. scaling_product g.N.Numerator.width c.args.old.now c.args._new.now c.args._by.now
    (factor c.args.factors.now 0) c.requires.is
    (g.N.Numerator.value (slice_index_or c.args.numbers.now (64 * c.args.v + i) d)) (c.requires.old i d below)

pub returns-clause-made : goal.returns-clause-made
returns-clause-made g c =
    scaling g.N.Numerator.value g.N.Numerator.width c.args._by.now (factor c.args.factors.now 0) c.args.v c.args.numbers.now
    c.scale.new.numbers c.args.old.now c.args._new.now
    c.requires.is c.requires.old c.scale.ensures.set
