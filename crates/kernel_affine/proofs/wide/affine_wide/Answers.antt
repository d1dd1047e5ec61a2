use Rattle.std.proofs.Common.{◌+ℤ◌, ◌∙◌, ap, sym, arith}
use Rattle.kernel_step.proofs.Intervals.{plain}
use Rattle.kernel_affine.specs.Affine.{bound_by, whole_lane}
use Rattle.kernel_affine.proofs.AffineRows.{three_sums, three_fits}
use Rattle.kernel_affine.proofs.wide.affine_wide.Goals as goal

pub wide_products-requires-clause-fits : goal.wide_products-requires-clause-fits
wide_products-requires-clause-fits g c =
    λ i d below.
    let taken = rw c.in-Three.is at c.requires.taken in
    rw (c.numerator-unit.ensures, plain c.args.unit c.ranges.unit)
    (three_fits g.N.Numerator.width c.args.row.now (whole_lane g.W.WholeNumber.number c.args.values.now i d) c.args.unit taken.1
    (c.requires.fitting 0 i d (omega (arith, taken.0)) below) (c.requires.fitting 1 i d (omega (arith, taken.0)) below)
    (c.requires.fitting 2 i d (omega (arith, taken.0)) below)
    (c.requires.fits i d below) (c.requires.sums i d below))

pub returns-in-Three-clause-set : goal.returns-in-Three-clause-set
returns-in-Three-clause-set g c =
    λ i d e below.
    let taken = rw c.in-Three.is at c.requires.taken in
    let numbers = whole_lane g.W.WholeNumber.number c.args.values.now i d in
    (rw (c.numerator-unit.ensures, plain c.args.unit c.ranges.unit) at (c.wide_products.ensures.set i d e below))
    ∙ ap (λ t. bound_by g.N.Numerator.value c.args.low c.args.high (t +ℤ c.args.unit))
    (sym (three_sums c.args.row.now numbers taken.1))

pub returns-clause-set : goal.returns-clause-set
returns-clause-set g c = λ i d e below. rw (plain c.args.unit c.ranges.unit) at (c.affine_value.ensures.set i d e below)

pub wide_products-requires-clause-wide : goal.wide_products-requires-clause-wide
wide_products-requires-clause-wide g c = c.requires.wide c.in-Three.is
