use Rattle.std.proofs.Common.{refl, pos, ◌*ℤ◌, ◌∙◌, sym, subst, rules}
use Rattle.std.specs.Int.{w128, int_signum}
use Rattle.std.specs.Int.RustNames.{FitsSigned}
use Rattle.std.proofs.lemmas.Int.{to_z-of_z}
use Rattle.frac_math.specs.Fraction.{◌/ℚ◌}
use Rattle.frac_math.specs.Checked.{Fits, QuotientFits}
use Rattle.frac_math.proofs.FractionRing.{denominator_positive}
use Rattle.frac_math.proofs.Reduction.{reduced_known}
use Rattle.frac_math.proofs.CheckedCalls.{same_answer, checked_quotient_exact}
use Rattle.frac_math.proofs.Quotient.{sign_is, sign_not_zero, sign_zero, part_fits, number_is, numerator_is, denominator_is}
use Rattle.frac_math.proofs.Quotient.{denominator_above, quotient_is, positive_size}
use Rattle.frac_math.proofs.frac.Frac.checked_div.Goals as goal

pub returns-then-sign-eq0-clause-value : goal.returns-then-sign-eq0-clause-value
returns-then-sign-eq0-clause-value c =
    let y = c.args.other.now in
    let sign = sign_is c.signum-sign.result c.num.result y.numerator (search rules) c.num.ensures c.signum-sign.ensures.value in
    same_answer _ _ (QuotientFits c.args.self.now y) (c.args.self.now /ℚ y)
    (λ p. p.divisor (sign_zero c.signum-sign.result y.numerator (search rules) sign c.if-sign-eq0.true))
    (checked_quotient_exact c.args.self.now y)

pub returns-in_err-num-clause-exact : goal.returns-in_err-num-clause-exact
returns-in_err-num-clause-exact c =
    let x = c.args.self.now in
    let y = c.args.other.now in
    let sign = sign_is c.signum-sign.result c.num.result y.numerator (search rules) c.num.ensures c.signum-sign.ensures.value in
    let n = number_is c.num-2.result c.den.result c.signum-sign.result x.numerator (int_signum y.numerator) y.denominator (search rules)
    (search rules) (search rules) c.num-2.ensures c.den.ensures sign c.signum-sign.ensures.lower_bound c.signum-sign.ensures.upper_bound
    ∙ numerator_is x.numerator (pos y.denominator) (int_signum y.numerator) in
    rw c.from_residual.ensures (λ p. c.in_err-num.ensures (subst Fits (sym n) p.numerator))

pub returns-in_err-num-clause-value : goal.returns-in_err-num-clause-value
returns-in_err-num-clause-value c =
    same_answer _ _ (QuotientFits c.args.self.now c.args.other.now) (c.args.self.now /ℚ c.args.other.now)
    (returns-in_err-num-clause-exact c) (checked_quotient_exact c.args.self.now c.args.other.now)

pub overflow_mul-den-2 : goal.overflow_mul-den-2
overflow_mul-den-2 c = part_fits c.den-2.result c.signum-sign.result c.args.self.now.denominator (search rules)
    (search rules) c.den-2.ensures c.signum-sign.ensures.lower_bound c.signum-sign.ensures.upper_bound

pub returns-in_err-den-clause-exact : goal.returns-in_err-den-clause-exact
returns-in_err-den-clause-exact c =
    let x = c.args.self.now in
    let y = c.args.other.now in
    let sign = sign_is c.signum-sign.result c.num.result y.numerator (search rules) c.num.ensures c.signum-sign.ensures.value in
    let d = number_is c.num-3.result c.den-2.result c.signum-sign.result y.numerator (int_signum y.numerator) x.denominator (search rules)
    (search rules) (search rules) c.num-3.ensures c.den-2.ensures sign c.signum-sign.ensures.lower_bound
    c.signum-sign.ensures.upper_bound
    ∙ denominator_is (pos x.denominator) y.numerator (int_signum y.numerator) in
    rw c.from_residual-in_err-den.ensures (λ p. c.in_err-den.ensures (subst Fits (sym d) p.denominator))

pub returns-in_err-den-clause-value : goal.returns-in_err-den-clause-value
returns-in_err-den-clause-value c =
    same_answer _ _ (QuotientFits c.args.self.now c.args.other.now) (c.args.self.now /ℚ c.args.other.now)
    (returns-in_err-den-clause-exact c) (checked_quotient_exact c.args.self.now c.args.other.now)

pub reduced-requires : goal.reduced-requires
reduced-requires c =
    let x = c.args.self.now in
    let y = c.args.other.now in
    let sign = sign_is c.signum-sign.result c.num.result y.numerator (search rules) c.num.ensures c.signum-sign.ensures.value in
    let d = c.in_ok-den.ensures.1
    ∙ number_is c.num-3.result c.den-2.result c.signum-sign.result y.numerator (int_signum y.numerator) x.denominator (search rules)
    (search rules) (search rules) c.num-3.ensures c.den-2.ensures sign c.signum-sign.ensures.lower_bound
    c.signum-sign.ensures.upper_bound
    ∙ denominator_is (pos x.denominator) y.numerator (int_signum y.numerator) in
    rw (to_z-of_z w128 c.in_ok-den.den (search rules), d)
    (denominator_above x.denominator y.numerator (denominator_positive x)
    (sign_not_zero c.signum-sign.result y.numerator sign c.if-sign-eq0.false))

pub returns-clause-exact : goal.returns-clause-exact
returns-clause-exact c =
    let x = c.args.self.now in
    let y = c.args.other.now in
    let sign = sign_is c.signum-sign.result c.num.result y.numerator (search rules) c.num.ensures c.signum-sign.ensures.value in
    let nz = sign_not_zero c.signum-sign.result y.numerator sign c.if-sign-eq0.false in
    let n = c.in_ok-num.ensures.1
    ∙ number_is c.num-2.result c.den.result c.signum-sign.result x.numerator (int_signum y.numerator) y.denominator (search rules)
    (search rules) (search rules) c.num-2.ensures c.den.ensures sign c.signum-sign.ensures.lower_bound c.signum-sign.ensures.upper_bound
    ∙ numerator_is x.numerator (pos y.denominator) (int_signum y.numerator) in
    let d = c.in_ok-den.ensures.1
    ∙ number_is c.num-3.result c.den-2.result c.signum-sign.result y.numerator (int_signum y.numerator) x.denominator (search rules)
    (search rules) (search rules) c.num-3.ensures c.den-2.ensures sign c.signum-sign.ensures.lower_bound
    c.signum-sign.ensures.upper_bound
    ∙ denominator_is (pos x.denominator) y.numerator (int_signum y.numerator) in
    let k = positive_size (pos x.denominator *ℤ y.numerator *ℤ int_signum y.numerator)
    (denominator_above x.denominator y.numerator (denominator_positive x) nz) in
    let fits_n : FitsSigned w128 c.in_ok-num.num = search rules in
    let fits_d : FitsSigned w128 c.in_ok-den.den = search rules in (
      record { divisor = nz; numerator = subst Fits n fits_n; denominator = subst Fits d fits_d },
      reduced_known c.reduced.result c.in_ok-num.num c.in_ok-den.den
          (x.numerator *ℤ pos y.denominator *ℤ int_signum y.numerator) k.0 fits_n fits_d n (d ∙ k.2) c.reduced.ensures
          ∙ sym (quotient_is x y (x.numerator *ℤ pos y.denominator *ℤ int_signum y.numerator) k.0 nz k.1 refl (sym k.2)),
    )

pub returns-clause-value : goal.returns-clause-value
returns-clause-value c =
    same_answer _ _ (QuotientFits c.args.self.now c.args.other.now) (c.args.self.now /ℚ c.args.other.now) (returns-clause-exact c)
    (checked_quotient_exact c.args.self.now c.args.other.now)
