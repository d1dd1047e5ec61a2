use Rattle.std.proofs.Common.{◌≡◌, to_z, of_z, FitsSigned, rules}
use Rattle.std.specs.Int.{w128}
use Rattle.kernel_step.specs.Forms.{width_of}
use Rattle.kernel_step.proofs.Intervals.{plain, number_width_plain, above_zero}
use Rattle.kernel_step.proofs.MadeValues.{scaled_made}
use Rattle.kernel_step.proofs.scale.scaled_by.Goals as goal

pub returns-clause-scaled : goal.returns-clause-scaled
returns-clause-scaled c =
    let old = c.args.old.now in
    let number_width = c.args.number_width in
    let df : FitsSigned w128 old.denominator = search rules in
    let lf : FitsSigned w128 old.least = search rules in
    let gf : FitsSigned w128 old.greatest = search rules in
    let o_is : to_z w128 (of_z w128 old.denominator) ≡ old.denominator = plain old.denominator df in
    let k_is : to_z w128 (of_z w128 c.args.k) ≡ c.args.k = plain c.args.k c.ranges.k in
    let d_is : to_z w128 (of_z w128 c.args.denominator) ≡ c.args.denominator = plain c.args.denominator c.ranges.denominator in
    let l_is : to_z w128 (of_z w128 old.least) ≡ old.least = plain old.least lf in
    let g_is : to_z w128 (of_z w128 old.greatest) ≡ old.greatest = plain old.greatest gf in
    let low : to_z w128 (of_z w128 c.in_ok-range.range.0) ≡ c.in_ok-range.range.0 = number_width_plain number_width c.in_ok-range.range.0
    c.in_ok-range.ensures.low in
    let high : to_z w128 (of_z w128 c.in_ok-range.range.1) ≡ c.in_ok-range.range.1 = number_width_plain number_width c.in_ok-range.range.1
    c.in_ok-range.ensures.high in
    let next = rw (k_is, l_is, g_is) at c.in_ok-range.ensures.sums in
    let term = rw (k_is, d_is, o_is) at (c.in_ok-is_factor.ensures c.if-not-branch.false) in
    let fits = rw k_is at (c.fits.ensures c.if-not-fits.false) in
    rw (d_is, low, high)
    (scaled_made (width_of number_width) old c.args.by.now c.args.k c.args.denominator c.in_ok-range.range.0 c.in_ok-range.range.1
    (above_zero c.args.denominator c.ranges.denominator c.if-denominator-le0.false) term fits next)
