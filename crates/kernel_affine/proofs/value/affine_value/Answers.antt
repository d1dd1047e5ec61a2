use Rattle.std.proofs.Common.{◌+ℤ◌, ◌∙◌, ap, sym, arith}
use Rattle.kernel_step.proofs.Intervals.{plain}
use Rattle.kernel_affine.specs.Affine.{bound_by, whole_lane}
use Rattle.kernel_affine.proofs.AffineRows.{one_sum, one_fits, three_sums, three_fits}
use Rattle.kernel_affine.proofs.value.affine_value.Goals as goal

pub one_value-requires-clause-fits : goal.one_value-requires-clause-fits
one_value-requires-clause-fits g c =
    λ i d below.
    let place = c.in-One.place in
    let taken = rw c.in-One.is at c.requires.taken in
    rw (c.entry.ensures, c.entry-in-One.ensures, c.of.ensures, plain c.args.unit c.ranges.unit)
    (one_fits g.N.Numerator.width c.args.row.now (whole_lane g.W.WholeNumber.number c.args.values.now i d) place c.args.unit
    (omega (arith, taken.0, c.requires.block.1)) taken.1 (c.requires.fitting place i d taken.0 below)
    (c.requires.fits i d below) (c.requires.sums i d below))

pub three_value-requires-clause-fits : goal.three_value-requires-clause-fits
three_value-requires-clause-fits g c =
    λ i d below.
    let taken = rw c.in-Three.is at c.requires.taken in
    rw (c.entry-in-Three.ensures, c.entry-in-Three-2.ensures, c.entry-in-Three-3.ensures, c.entry-in-Three-4.ensures, c.of-in-Three.ensures, plain c.args.unit c.ranges.unit)
    (three_fits g.N.Numerator.width c.args.row.now (whole_lane g.W.WholeNumber.number c.args.values.now i d) c.args.unit taken.1
    (c.requires.fitting 0 i d (omega (arith, taken.0)) below) (c.requires.fitting 1 i d (omega (arith, taken.0)) below)
    (c.requires.fitting 2 i d (omega (arith, taken.0)) below)
    (c.requires.fits i d below) (c.requires.sums i d below))

pub returns-in-One-clause-set : goal.returns-in-One-clause-set
returns-in-One-clause-set g c =
    λ i d e below.
    let place = c.in-One.place in
    let taken = rw c.in-One.is at c.requires.taken in
    let numbers = whole_lane g.W.WholeNumber.number c.args.values.now i d in
    (rw (c.entry.ensures, c.entry-in-One.ensures, c.of.ensures, plain c.args.unit c.ranges.unit) at (c.one_value.ensures.set i d e below))
    ∙ ap (λ t. bound_by g.N.Numerator.value c.args.low c.args.high (t +ℤ c.args.unit))
    (sym (one_sum c.args.row.now numbers place (omega (arith, taken.0, c.requires.block.1)) taken.1))

pub returns-in-Three-clause-set : goal.returns-in-Three-clause-set
returns-in-Three-clause-set g c =
    λ i d e below.
    let taken = rw c.in-Three.is at c.requires.taken in
    let numbers = whole_lane g.W.WholeNumber.number c.args.values.now i d in
    (rw (c.entry-in-Three.ensures, c.entry-in-Three-2.ensures, c.entry-in-Three-3.ensures, c.entry-in-Three-4.ensures, c.of-in-Three.ensures, plain c.args.unit c.ranges.unit)
    at (c.three_value.ensures.set i d e below))
    ∙ ap (λ t. bound_by g.N.Numerator.value c.args.low c.args.high (t +ℤ c.args.unit))
    (sym (three_sums c.args.row.now numbers taken.1))
