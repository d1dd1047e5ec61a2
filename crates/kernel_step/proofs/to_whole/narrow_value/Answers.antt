use Rattle.op_list.specs.Types.{bits}
use Rattle.std.proofs.Common.{◌+◌, ◌*◌, arith, slice_index_or}
use Rattle.std.proofs.lemmas.Int.{ints}
use Rattle.kernel_step.proofs.NarrowSteps.{part_below, even_quotients_are_floors, quotients_are_floors}
use Rattle.kernel_step.proofs.to_whole.narrow_value.Goals as goal

pub narrow-requires-clause-greatest : goal.narrow-requires-clause-greatest
narrow-requires-clause-greatest g c i e below =
    let is = rw c.in-Short.is at c.requires.divided in
    let range = c.requires.old i e below in
    part_below (g.N.Numerator.value (slice_index_or c.args.numbers.now (64 * c.args.v + i) e)) c.args.old.now.greatest c.in-Short.zeros
    c.in-Short.by.bound (omega (arith, ints, is.2.least, range.0)) range.1 is.2.greatest

pub returns-in-Short-clause-set : goal.returns-in-Short-clause-set
returns-in-Short-clause-set g c =
    let is = rw c.in-Short.is at c.requires.divided in
    let r = c.in-Short.by in
    even_quotients_are_floors g.W.WholeNumber.number g.N.Numerator.value (bits c.args.to) c.args.numbers.now c.args.v c.args.old.now
    c.in-Short.zeros r.d r.bound r.factor r.shift c.narrow.new.values
    is.2 c.requires.old c.narrow.ensures.set

pub returns-in-Long-clause-set : goal.returns-in-Long-clause-set
returns-in-Long-clause-set g c =
    let is = rw c.in-Long.is at c.requires.divided in
    let r = c.in-Long.by in
    quotients_are_floors g.W.WholeNumber.number g.N.Numerator.value (bits c.args.to) c.args.numbers.now c.args.v c.args.old.now r.d r.bound
    r.factor r.shift c.narrow_long.new.values
    is.1 c.requires.old c.narrow_long.ensures.set
