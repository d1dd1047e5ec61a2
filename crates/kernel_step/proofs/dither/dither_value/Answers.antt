use Rattle.std.proofs.Common.{◌+◌, ◌*◌, ◌%◌, arith, slice_index_or}
use Rattle.kernel_step.specs.Forms.{factor}
use Rattle.kernel_step.proofs.DitherSteps.{Adds, dithered, parts_fit, unit_products}
use Rattle.kernel_step.proofs.dither.dither_value.Goals as goal

pub scale-requires-clause-fits : goal.scale-requires-clause-fits
scale-requires-clause-fits g c = λ i d below. c.requires.is.products
    (g.N.Numerator.value (slice_index_or c.args.numbers.now (64 * c.args.v + i) d)) (c.requires.old i d below)

pub fill_addends-requires-clause-one : goal.fill_addends-requires-clause-one
fill_addends-requires-clause-one g c =
    parts_fit g.N.Numerator.width c.args.old.now c.args.k (factor c.args.factors.now 0) (factor c.args.factors.now 1) c.args._new.now
    c.args.position.now.x c.args.position.now.y
    c.dither_numbers-pattern.result c.requires.is c.dither_numbers-pattern.ensures.numbers

pub fill_addends-requires-clause-fits : goal.fill_addends-requires-clause-fits
fill_addends-requires-clause-fits g c =
    λ j below. rw c.numerator.ensures
    (unit_products g.N.Numerator.width c.args.old.now c.args.k (factor c.args.factors.now 0) (factor c.args.factors.now 1) c.args._new.now
    c.args.position.now.x c.args.position.now.y
    c.dither_numbers-pattern.result c.requires.is c.dither_numbers-pattern.ensures.numbers j below)

pub add_pattern-requires-clause-fits : goal.add_pattern-requires-clause-fits
add_pattern-requires-clause-fits g c =
    λ i d below.
    let p = c.dither_numbers-pattern.ensures.numbers i in
    let sum = c.requires.is.sums _ (g.N.Numerator.value (slice_index_or c.args.numbers.now (64 * c.args.v + i) d)) p.1 p.2
    (c.requires.old i d below) in
    rw (c.scale.ensures.set i d below, c.fill_addends.ensures (i % 16) d (omega arith), c.numerator.ensures) sum

pub returns-clause-made : goal.returns-clause-made
returns-clause-made g c =
    let adds : Adds g.N.Numerator.value (factor c.args.factors.now 0) (factor c.args.factors.now 1) c.dither_numbers-pattern.result
    c.args.v c.args.numbers.now c.add_pattern.new.numbers =
    λ i d below. rw (c.scale.ensures.set i d below, c.fill_addends.ensures (i % 16) d (omega arith), c.numerator.ensures)
    at (c.add_pattern.ensures.set i d below) in
    dithered g.N.Numerator.value g.N.Numerator.width c.args.k c.args.position.now.x c.args.position.now.y (factor c.args.factors.now 0)
    (factor c.args.factors.now 1)
    c.dither_numbers-pattern.result c.args.v c.args.numbers.now c.add_pattern.new.numbers c.args.old.now c.args._new.now
    c.requires.is c.dither_numbers-pattern.ensures.numbers c.requires.old adds
