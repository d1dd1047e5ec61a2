use Rattle.std.proofs.Common.{◌≡◌, pos, false, unsigned_abs, subst, sym, ◌∙◌, refl, arith, rules}
use Rattle.std.specs.Int.{w128}
use Rattle.std.specs.Int.RustNames.{FitsSigned}
use Rattle.std.proofs.lemmas.Int.{ints, to_z-of_z}
use Rattle.frac_math.specs.Gcd.{gcd}
use Rattle.frac_math.specs.Fraction.{ratio}
use Rattle.frac_math.specs.Checked.{Fits, RatioFits}
use Rattle.frac_math.proofs.Reduction.{signs_differ, ratio_num, ratio_den, own_reduced, own_over, divisor_positive, gcd_known, size_known}
use Rattle.frac_math.proofs.CheckedCalls.{same_answer, checked_ratio_exact}
use Rattle.frac_math.proofs.frac.Frac.new.Goals as goal

pub returns-then-den-eq0-clause-value : goal.returns-then-den-eq0-clause-value
returns-then-den-eq0-clause-value c =
    same_answer _ _ (RatioFits c.args.num c.args.den) (ratio c.args.num c.args.den) (search rules)
    (checked_ratio_exact c.args.num c.args.den)

pub nonzero_div-unsigned_abs : goal.nonzero_div-unsigned_abs
nonzero_div-unsigned_abs c =
    let n = c.args.num in
    let d = c.args.den in
    let g = gcd_known c.common_divisor-divisor.result c.unsigned_abs.result c.unsigned_abs-2.result n d c.ranges.num c.ranges.den
    c.unsigned_abs.ensures.value c.unsigned_abs-2.ensures.value c.common_divisor-divisor.ensures in
    let nz : d ≡ pos 0 → ⊥ = λ e. absurd (omega (arith, ints, e)) in
    rw g (divisor_positive n d nz)

pub nonzero_div-unsigned_abs-2 : goal.nonzero_div-unsigned_abs-2
nonzero_div-unsigned_abs-2 c =
    let n = c.args.num in
    let d = c.args.den in
    let g = gcd_known c.common_divisor-divisor.result c.unsigned_abs.result c.unsigned_abs-2.result n d c.ranges.num c.ranges.den
    c.unsigned_abs.ensures.value c.unsigned_abs-2.ensures.value c.common_divisor-divisor.ensures in
    let nz : d ≡ pos 0 → ⊥ = λ e. absurd (omega (arith, ints, e)) in
    rw g (divisor_positive n d nz)

pub returns-in_err-above-clause-exact : goal.returns-in_err-above-clause-exact
returns-in_err-above-clause-exact c =
    let n = c.args.num in
    let d = c.args.den in
    let g = gcd_known c.common_divisor-divisor.result c.unsigned_abs.result c.unsigned_abs-2.result n d c.ranges.num c.ranges.den
    c.unsigned_abs.ensures.value c.unsigned_abs-2.ensures.value c.common_divisor-divisor.ensures in
    let nz : d ≡ pos 0 → ⊥ = λ e. absurd (omega (arith, ints, e)) in
    let numerator = size_known _ (signs_differ n d) c.unsigned_abs-3.result c.common_divisor-divisor.result
    (gcd (unsigned_abs n) (unsigned_abs d)) n c.ranges.num
    (rw (to_z-of_z w128 n c.ranges.num, to_z-of_z w128 d c.ranges.den)) c.unsigned_abs-3.ensures.value g ∙ sym (ratio_num n d nz) in
    rw c.from_residual.ensures (λ p. c.in_err-above.ensures (subst Fits (sym numerator) p.numerator))

pub returns-in_err-above-clause-value : goal.returns-in_err-above-clause-value
returns-in_err-above-clause-value c =
    same_answer _ _ (RatioFits c.args.num c.args.den) (ratio c.args.num c.args.den) (returns-in_err-above-clause-exact c)
    (checked_ratio_exact c.args.num c.args.den)

pub returns-in_err-below-clause-exact : goal.returns-in_err-below-clause-exact
returns-in_err-below-clause-exact c =
    let n = c.args.num in
    let d = c.args.den in
    let g = gcd_known c.common_divisor-divisor.result c.unsigned_abs.result c.unsigned_abs-2.result n d c.ranges.num c.ranges.den
    c.unsigned_abs.ensures.value c.unsigned_abs-2.ensures.value c.common_divisor-divisor.ensures in
    let nz : d ≡ pos 0 → ⊥ = λ e. absurd (omega (arith, ints, e)) in
    let denominator = size_known false false c.unsigned_abs-4.result c.common_divisor-divisor.result
    (gcd (unsigned_abs n) (unsigned_abs d)) d c.ranges.den refl c.unsigned_abs-4.ensures.value g ∙ sym (ratio_den n d nz) in
    rw c.from_residual-in_err-below.ensures (λ p. c.in_err-below.ensures (subst Fits (sym denominator) p.denominator))

pub returns-in_err-below-clause-value : goal.returns-in_err-below-clause-value
returns-in_err-below-clause-value c =
    same_answer _ _ (RatioFits c.args.num c.args.den) (ratio c.args.num c.args.den) (returns-in_err-below-clause-exact c)
    (checked_ratio_exact c.args.num c.args.den)

pub invariant_of-result : goal.invariant_of-result
invariant_of-result c =
    let f : FitsSigned w128 c.in_ok-above.above = search rules in
    let h : FitsSigned w128 c.in_ok-below.below = search rules in
    let n = c.args.num in
    let d = c.args.den in
    let g = gcd_known c.common_divisor-divisor.result c.unsigned_abs.result c.unsigned_abs-2.result n d c.ranges.num c.ranges.den
    c.unsigned_abs.ensures.value c.unsigned_abs-2.ensures.value c.common_divisor-divisor.ensures in
    let nz : d ≡ pos 0 → ⊥ = λ e. absurd (omega (arith, ints, e)) in
    let numerator = size_known _ (signs_differ n d) c.unsigned_abs-3.result c.common_divisor-divisor.result
    (gcd (unsigned_abs n) (unsigned_abs d)) n c.ranges.num
    (rw (to_z-of_z w128 n c.ranges.num, to_z-of_z w128 d c.ranges.den)) c.unsigned_abs-3.ensures.value g ∙ sym (ratio_num n d nz) in
    let denominator = size_known false false c.unsigned_abs-4.result c.common_divisor-divisor.result
    (gcd (unsigned_abs n) (unsigned_abs d)) d c.ranges.den refl c.unsigned_abs-4.ensures.value g ∙ sym (ratio_den n d nz) in
    rw (
      to_z-of_z w128 c.in_ok-above.above f,
      to_z-of_z w128 c.in_ok-below.below h,
      c.in_ok-above.ensures.1
          ∙ numerator,
      c.in_ok-below.ensures.1 ∙ denominator,
    ) (own_reduced (ratio n d))

pub returns-clause-exact : goal.returns-clause-exact
returns-clause-exact c =
    let f : FitsSigned w128 c.in_ok-above.above = search rules in
    let h : FitsSigned w128 c.in_ok-below.below = search rules in
    let n = c.args.num in
    let d = c.args.den in
    let g = gcd_known c.common_divisor-divisor.result c.unsigned_abs.result c.unsigned_abs-2.result n d c.ranges.num c.ranges.den
    c.unsigned_abs.ensures.value c.unsigned_abs-2.ensures.value c.common_divisor-divisor.ensures in
    let nz : d ≡ pos 0 → ⊥ = λ e. absurd (omega (arith, ints, e)) in
    let numerator = size_known _ (signs_differ n d) c.unsigned_abs-3.result c.common_divisor-divisor.result
    (gcd (unsigned_abs n) (unsigned_abs d)) n c.ranges.num
    (rw (to_z-of_z w128 n c.ranges.num, to_z-of_z w128 d c.ranges.den)) c.unsigned_abs-3.ensures.value g ∙ sym (ratio_num n d nz) in
    let denominator = size_known false false c.unsigned_abs-4.result c.common_divisor-divisor.result
    (gcd (unsigned_abs n) (unsigned_abs d)) d c.ranges.den refl c.unsigned_abs-4.ensures.value g ∙ sym (ratio_den n d nz) in
    let above = c.in_ok-above.ensures.1 ∙ numerator in
    let below = c.in_ok-below.ensures.1 ∙ denominator in (
      record { divisor = nz; numerator = subst Fits above f; denominator = subst Fits below h },
      rw (to_z-of_z w128 c.in_ok-above.above f, to_z-of_z w128 c.in_ok-below.below h, above, below) (own_over (ratio n d)),
    )

pub returns-clause-value : goal.returns-clause-value
returns-clause-value c = same_answer _ _ (RatioFits c.args.num c.args.den) (ratio c.args.num c.args.den) (returns-clause-exact c)
    (checked_ratio_exact c.args.num c.args.den)
