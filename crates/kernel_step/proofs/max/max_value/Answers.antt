use Rattle.std.proofs.Common.{◌+◌, ◌*◌, slice_index_or}
use Rattle.kernel_step.specs.Forms.{factor}
use Rattle.kernel_step.proofs.ScaleSteps.{scaled_same}
use Rattle.kernel_step.proofs.LimitSteps.{maximum}
use Rattle.kernel_step.proofs.max.max_value.Goals as goal

pub returns-in-None-clause-made : goal.returns-in-None-clause-made
returns-in-None-clause-made g c =
    let is = rw c.in-None.is at c.requires.is in
    rw c.in-None.is
    (scaled_same g.N.Numerator.value g.N.Numerator.width (factor c.args.factors.now 0) c.args.v c.args.numbers.now c.scale.new.numbers
    c.args.old.now c.args.new.now
    is c.requires.old c.scale.ensures.set)

pub returns-in-Some-clause-made : goal.returns-in-Some-clause-made
returns-in-Some-clause-made g c =
    let is = rw c.in-Some.is at c.requires.is in
    rw c.in-Some.is
    (maximum g.N.Numerator.value g.N.Numerator.width c.in-Some.field-0 (factor c.args.factors.now 0) c.args.v c.args.numbers.now
    c.hold_above.new.numbers c.args.old.now c.args.new.now
    is c.requires.old c.hold_above.ensures.set)

pub hold_above-requires-clause-below : goal.hold_above-requires-clause-below
hold_above-requires-clause-below g c =
    let is = rw c.in-Some.is at c.requires.is in
    λ i d below. is.below (g.N.Numerator.value (slice_index_or c.args.numbers.now (64 * c.args.v + i) d)) (c.requires.old i d below)
