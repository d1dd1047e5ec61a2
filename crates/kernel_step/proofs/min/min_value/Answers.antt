use Rattle.std.proofs.Common.{◌+◌, ◌*◌, slice_index_or}
use Rattle.kernel_step.specs.Forms.{factor}
use Rattle.kernel_step.proofs.ScaleSteps.{scaled_same}
use Rattle.kernel_step.proofs.LimitSteps.{minimum}
use Rattle.kernel_step.proofs.min.min_value.Goals as goal

pub returns-in-None-clause-made : goal.returns-in-None-clause-made
returns-in-None-clause-made g c =
    let is = rw c.in-None.is at c.requires.is in
    rw c.in-None.is
    (scaled_same g.N.Numerator.value g.N.Numerator.width (factor c.args.factors.now 0) c.args.v c.args.numbers.now c.scale.new.numbers
    c.args.old.now c.args.new.now
    is c.requires.old c.scale.ensures.set)

pub returns-in-Some-clause-made : goal.returns-in-Some-clause-made
returns-in-Some-clause-made g c =
    let is = rw c.in-Some.is at c.requires.is in
    rw c.in-Some.is
    (minimum g.N.Numerator.value g.N.Numerator.width c.in-Some.field-0 (factor c.args.factors.now 0) c.args.v c.args.numbers.now
    c.hold_below.new.numbers c.args.old.now c.args.new.now
    is c.requires.old c.hold_below.ensures.set)

pub hold_below-requires-clause-above : goal.hold_below-requires-clause-above
hold_below-requires-clause-above g c =
    let is = rw c.in-Some.is at c.requires.is in
    λ i d below. is.above (g.N.Numerator.value (slice_index_or c.args.numbers.now (64 * c.args.v + i) d)) (c.requires.old i d below)
