use Rattle.std.proofs.Common.{◌*◌, pos, subst, rules}
use Rattle.std.specs.Int.{w128}
use Rattle.std.specs.Int.RustNames.{FitsSigned}
use Rattle.frac_math.specs.Fraction.{◌*ℚ◌}
use Rattle.frac_math.specs.Checked.{ProductFits}
use Rattle.frac_math.proofs.Casts.{product_known}
use Rattle.frac_math.proofs.Reduction.{product_positive_ℤ, reduced_known}
use Rattle.frac_math.proofs.CheckedCalls.{same_answer, checked_product_exact}
use Rattle.frac_math.proofs.frac.Frac.reduced_product.Goals as goal

pub returns-in_err-num-clause-value : goal.returns-in_err-num-clause-value
returns-in_err-num-clause-value c =
    same_answer _ _ (ProductFits c.args.self.now c.args.other.now) (c.args.self.now *ℚ c.args.other.now) (search rules)
    (checked_product_exact c.args.self.now c.args.other.now)

pub returns-in_err-den-clause-value : goal.returns-in_err-den-clause-value
returns-in_err-den-clause-value c =
    same_answer _ _ (ProductFits c.args.self.now c.args.other.now) (c.args.self.now *ℚ c.args.other.now) (search rules)
    (checked_product_exact c.args.self.now c.args.other.now)

pub reduced-requires : goal.reduced-requires
reduced-requires c =
    product_positive_ℤ c.args.self.now c.args.other.now c.in_ok-den.den (search rules)
    (product_known c.den.result c.den-2.result c.in_ok-den.den _ _ (search rules)
    (search rules) c.den.ensures c.den-2.ensures c.in_ok-den.ensures.1)

pub returns-clause-exact : goal.returns-clause-exact
unfolding ◌*ℚ◌
returns-clause-exact c =
    let x = c.args.self.now in
    let y = c.args.other.now in
    let n = product_known c.num.result c.num-2.result c.in_ok-num.num x.numerator y.numerator (search rules)
    (search rules) c.num.ensures c.num-2.ensures c.in_ok-num.ensures.1 in
    let d = product_known c.den.result c.den-2.result c.in_ok-den.den (pos x.denominator) (pos y.denominator) (search rules)
    (search rules) c.den.ensures c.den-2.ensures c.in_ok-den.ensures.1 in
    let fits_n : FitsSigned w128 c.in_ok-num.num = search rules in
    let fits_d : FitsSigned w128 c.in_ok-den.den = search rules in (
      record { numerator = subst (λ z. FitsSigned w128 z) n fits_n; denominator = subst (λ z. FitsSigned w128 z) d fits_d },
      reduced_known c.reduced.result c.in_ok-num.num c.in_ok-den.den _ (x.denominator * y.denominator) fits_n fits_d n d c.reduced.ensures,
    )

pub returns-clause-value : goal.returns-clause-value
returns-clause-value c =
    same_answer _ _ (ProductFits c.args.self.now c.args.other.now) (c.args.self.now *ℚ c.args.other.now) (returns-clause-exact c)
    (checked_product_exact c.args.self.now c.args.other.now)
