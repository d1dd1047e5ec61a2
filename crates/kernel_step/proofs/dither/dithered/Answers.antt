use Rattle.std.proofs.Common.{◌≡◌, ◌*◌, ◌^◌, ◌∙◌, ap, sym, ◌*ℤ◌, pos, to_z, of_z, FitsSigned, rules, arith}
use Rattle.std.specs.Prelude.{◌<ℤ◌}
use Rattle.std.specs.Int.{w128}
use Rattle.std.proofs.lemmas.Int.{ints}
use Rattle.kernel_step.specs.Forms.{width_of}
use Rattle.kernel_step.proofs.Intervals.{plain, number_width_plain}
use Rattle.kernel_step.proofs.MadeValues.{dithered_made}
use Rattle.kernel_step.proofs.dither.dithered.Goals as goal

pub whole_quotient-requires : goal.whole_quotient-requires
whole_quotient-requires c =
    let parts = c.parts_of-parts.result in
    let fits : FitsSigned w128 parts = omega (arith, ints, c.parts_of-parts.ensures.some, c.parts_of-parts.ensures.small) in
    let above : pos 0 <ℤ parts = omega (arith, ints, c.parts_of-parts.ensures.some) in
    rw (plain parts fits) above

pub returns : goal.returns
returns c =
    let number_width = c.args.number_width in
    let new = c.in_ok-scaled.scaled in
    let e = c.in_ok-scaled.ensures in
    let parts = c.parts_of-parts.result in
    let unit = c.in_ok-unit.unit in
    let factor = c.in_ok-factor.factor in
    let fits : FitsSigned w128 parts = omega (arith, ints, c.parts_of-parts.ensures.some, c.parts_of-parts.ensures.small) in
    let df : FitsSigned w128 new.denominator = search rules in
    let d_is : to_z w128 (of_z w128 new.denominator) ≡ new.denominator = plain new.denominator df in
    let p_is : to_z w128 (of_z w128 parts) ≡ parts = plain parts fits in
    let u_is : to_z w128 (of_z w128 unit) ≡ unit = plain unit c.in_ok-unit.ensures.fits in
    let m_is : to_z w128 (of_z w128 c.in_ok-most.most) ≡ c.in_ok-most.most = plain c.in_ok-most.most c.in_ok-most.ensures.fits in
    let l_is : to_z w128 (of_z w128 new.least) ≡ new.least = number_width_plain number_width new.least e.least in
    let g_is : to_z w128 (of_z w128 new.greatest) ≡ new.greatest = number_width_plain number_width new.greatest e.greatest in
    let low : to_z w128 (of_z w128 c.in_ok-range.range.0) ≡ c.in_ok-range.range.0 = number_width_plain number_width c.in_ok-range.range.0
    c.in_ok-range.ensures.low_fits in
    let high : to_z w128 (of_z w128 c.in_ok-range.range.1) ≡ c.in_ok-range.range.1 = number_width_plain number_width c.in_ok-range.range.1
    c.in_ok-range.ensures.high_fits in
    let ff : FitsSigned w128 factor = search rules in
    let f_is : to_z w128 (of_z w128 factor) ≡ factor = plain factor ff in
    let scaled = rw f_is at e.scaled in
    let unit_is : unit *ℤ pos (2 * 4 ^ c.args.k) ≡ new.denominator = ap (λ t. unit *ℤ t) (sym c.parts_of-parts.ensures.value) ∙
    (rw (p_is, d_is) at c.in_ok-unit.ensures.value) in
    let most_is = rw (d_is, u_is) at c.in_ok-most.ensures.value in
    let added = rw (l_is, g_is, u_is, m_is) at c.in_ok-range.ensures in
    rw (c.with_unit-factors.ensures.factor, c.with_unit-factors.ensures.unit, f_is, u_is, d_is, low, high)
    (dithered_made (width_of number_width) c.args.old.now c.args.k factor unit c.in_ok-most.most new.denominator new.least new.greatest
    c.in_ok-range.range.0 c.in_ok-range.range.1
    e.positive scaled unit_is most_is added)
