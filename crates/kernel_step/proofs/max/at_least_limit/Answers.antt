use Rattle.std.proofs.Common.{◌≡◌, to_z, of_z, FitsSigned, rules}
use Rattle.std.specs.Int.{w128}
use Rattle.kernel_step.specs.Forms.{width_of}
use Rattle.kernel_step.proofs.Intervals.{plain, number_width_plain, wide_fits}
use Rattle.kernel_step.proofs.MadeValues.{max_fits, maximum_made}
use Rattle.kernel_step.proofs.max.at_least_limit.Goals as goal

pub returns : goal.returns
returns c =
    let number_width = c.args.number_width in
    let both = c.in_ok-both.both in
    let e = c.in_ok-both.ensures in
    let df : FitsSigned w128 both.extent.denominator = search rules in
    let d_is : to_z w128 (of_z w128 both.extent.denominator) ≡ both.extent.denominator = plain both.extent.denominator df in
    let k_is : to_z w128 (of_z w128 both.factor) ≡ both.factor = number_width_plain number_width both.factor e.scaled.fits in
    let l_is : to_z w128 (of_z w128 both.extent.least) ≡ both.extent.least = number_width_plain number_width both.extent.least e.least in
    let g_is : to_z w128 (of_z w128 both.extent.greatest) ≡ both.extent.greatest =
    number_width_plain number_width both.extent.greatest e.greatest in
    let n_is : to_z w128 (of_z w128 both.limit) ≡ both.limit = number_width_plain number_width both.limit e.fits in
    let low = rw (l_is, n_is) at c.max.ensures.value in
    let high = rw (g_is, n_is) at c.max-2.ensures.value in
    let low_fits : FitsSigned w128 c.max.result =
    max_fits w128 c.max.result both.extent.least both.limit low (wide_fits number_width both.extent.least e.least)
    (wide_fits number_width both.limit e.fits) in
    let high_fits : FitsSigned w128 c.max-2.result =
    max_fits w128 c.max-2.result both.extent.greatest both.limit high (wide_fits number_width both.extent.greatest e.greatest)
    (wide_fits number_width both.limit e.fits) in
    let low_is : to_z w128 (of_z w128 c.max.result) ≡ c.max.result = plain c.max.result low_fits in
    let high_is : to_z w128 (of_z w128 c.max-2.result) ≡ c.max-2.result = plain c.max-2.result high_fits in
    rw (c.with_single-factors.ensures, k_is, d_is, low_is, high_is)
    (maximum_made (width_of number_width) c.args.old.now c.args.limit.now both.factor both.extent.denominator both.extent.least
    both.extent.greatest c.max.result c.max-2.result both.limit
    e.positive e.scaled e.ordered e.least e.greatest e.fits e.number low high)
