use Rattle.std.proofs.Common.{◌≡◌, ℕ, ◌<◌, ℤ, pos, ◌*ℤ◌, List, [], ◌∷◌, FitsSigned, subst, arith, to_z, of_z, get_or}
use Rattle.std.specs.Int.{w128}
use Rattle.std.specs.Prelude.{unsigned_abs}
use Rattle.std.proofs.lemmas.List.{get_or_default}
use Rattle.frac_math.specs.Fraction.{ℚ, nat}
use Rattle.op_list.specs.Values.{fraction_in}
use Rattle.kernel_step.specs.Forms.{width_of, factor, IsTerm, IsRange}
use Rattle.kernel_step.proofs.Intervals.{plain, number_width_plain}
use Rattle.kernel_step.proofs.Factors.{row_made, five}
use Rattle.kernel_step.proofs.row_form.formed_row.Goals as goal

pub returns : goal.returns
returns c =
    let row = c.args.row.now in
    let number_width = c.args.number_width in
    let d = c.args.d in
    let d_is : to_z w128 (of_z w128 d) ≡ d = plain d c.ranges.d in
    let k0 = c.in_ok-factor_of.field-0 in
    let k1 = c.in_ok-factor_of-2.field-0 in
    let k2 = c.in_ok-factor_of-3.field-0 in
    let k3 = c.in_ok-factor_of-4.field-0 in
    let k4 = c.in_ok-number_over.field-0 in
    let e0 : to_z w128 (of_z w128 k0) ≡ k0 = plain k0 c.in_ok-factor_of.ensures.fits in
    let e1 : to_z w128 (of_z w128 k1) ≡ k1 = plain k1 c.in_ok-factor_of-2.ensures.fits in
    let e2 : to_z w128 (of_z w128 k2) ≡ k2 = plain k2 c.in_ok-factor_of-3.ensures.fits in
    let e3 : to_z w128 (of_z w128 k3) ≡ k3 = plain k3 c.in_ok-factor_of-4.ensures.fits in
    let e4 : to_z w128 (of_z w128 k4) ≡ k4 = plain k4 c.in_ok-number_over.ensures.fits in
    let low : to_z w128 (of_z w128 c.in_ok-range.range.0) ≡ c.in_ok-range.range.0 =
    number_width_plain number_width c.in_ok-range.range.0 c.in_ok-range.ensures.low in
    let high : to_z w128 (of_z w128 c.in_ok-range.range.1) ≡ c.in_ok-range.range.1 =
    number_width_plain number_width c.in_ok-range.range.1 c.in_ok-range.ensures.high in
    let a0 : get_or row 0 c.index-row-0.result ≡ fraction_in row 0 = get_or_default row 0 _ (nat 0) (omega arith) in
    let a1 : get_or row 1 c.index-row-1.result ≡ fraction_in row 1 = get_or_default row 1 _ (nat 0) (omega arith) in
    let a2 : get_or row 2 c.index-row-2.result ≡ fraction_in row 2 = get_or_default row 2 _ (nat 0) (omega arith) in
    let a3 : get_or row 3 c.index-row-3.result ≡ fraction_in row 3 = get_or_default row 3 _ (nat 0) (omega arith) in
    let a4 : get_or row 4 c.index-row-4.result ≡ fraction_in row 4 = get_or_default row 4 _ (nat 0) (omega arith) in
    let t0 : IsTerm c.args.before.now (fraction_in row 0) k0 (unsigned_abs d) 0 =
    subst (λ (x : ℚ). IsTerm c.args.before.now x k0 (unsigned_abs d) 0) a0
    (subst (λ (z : ℤ). IsTerm c.args.before.now (get_or row 0 c.index-row-0.result) k0 (unsigned_abs z) 0) d_is
    c.in_ok-factor_of.ensures.term) in
    let t1 : IsTerm c.args.before.now (fraction_in row 1) k1 (unsigned_abs d) 1 =
    subst (λ (x : ℚ). IsTerm c.args.before.now x k1 (unsigned_abs d) 1) a1
    (subst (λ (z : ℤ). IsTerm c.args.before.now (get_or row 1 c.index-row-1.result) k1 (unsigned_abs z) 1) d_is
    c.in_ok-factor_of-2.ensures.term) in
    let t2 : IsTerm c.args.before.now (fraction_in row 2) k2 (unsigned_abs d) 2 =
    subst (λ (x : ℚ). IsTerm c.args.before.now x k2 (unsigned_abs d) 2) a2
    (subst (λ (z : ℤ). IsTerm c.args.before.now (get_or row 2 c.index-row-2.result) k2 (unsigned_abs z) 2) d_is
    c.in_ok-factor_of-3.ensures.term) in
    let t3 : IsTerm c.args.before.now (fraction_in row 3) k3 (unsigned_abs d) 3 =
    subst (λ (x : ℚ). IsTerm c.args.before.now x k3 (unsigned_abs d) 3) a3
    (subst (λ (z : ℤ). IsTerm c.args.before.now (get_or row 3 c.index-row-3.result) k3 (unsigned_abs z) 3) d_is
    c.in_ok-factor_of-4.ensures.term) in
    let t4 : k4 *ℤ pos (fraction_in row 4).denominator ≡ (fraction_in row 4).numerator *ℤ d =
    subst (λ (x : ℚ). k4 *ℤ pos x.denominator ≡ x.numerator *ℤ d) a4
    (subst (λ (z : ℤ). k4 *ℤ pos (get_or row 4 c.index-row-4.result).denominator ≡ (get_or row 4 c.index-row-4.result).numerator *ℤ z)
    d_is c.in_ok-number_over.ensures.value) in
    let shown : List ℤ = to_z w128 (of_z w128 k0) ∷ to_z w128 (of_z w128 k1) ∷ to_z w128 (of_z w128 k2) ∷ to_z w128 (of_z w128 k3)
    ∷ to_z w128 (of_z w128 k4) ∷ [] in
    let same : shown ≡ k0 ∷ k1 ∷ k2 ∷ k3 ∷ k4 ∷ [] = five e0 e1 e2 e3 e4 in
    let entries = subst (λ t. (j : ℕ) → j < 5 → FitsSigned (width_of number_width) (factor t j)) same
    (c.all_fit.ensures c.if-not-all_fit.false) in
    let range = subst (λ t. IsRange (width_of number_width) c.args.before.now t c.in_ok-range.range.0 c.in_ok-range.range.1) same
    c.in_ok-range.ensures.range in
    rw (e0, e1, e2, e3, e4, d_is, low, high)
    (row_made (width_of number_width) c.args.before.now row k0 k1 k2 k3 k4 d c.in_ok-range.range.0 c.in_ok-range.range.1 c.requires t0
    t1 t2 t3 t4
    entries range)
