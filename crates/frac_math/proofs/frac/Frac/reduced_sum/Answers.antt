use Rattle.std.proofs.Common.{◌*◌, pos, ◌*ℤ◌, subst, rules}
use Rattle.std.specs.Int.{w128}
use Rattle.std.specs.Int.RustNames.{FitsSigned}
use Rattle.frac_math.specs.Fraction.{◌+ℚ◌}
use Rattle.frac_math.specs.Checked.{SumFits}
use Rattle.frac_math.proofs.Casts.{product_known, sum_known}
use Rattle.frac_math.proofs.Reduction.{product_positive_ℤ, reduced_known}
use Rattle.frac_math.proofs.CheckedCalls.{same_answer, checked_sum_exact}
use Rattle.frac_math.proofs.frac.Frac.reduced_sum.Goals as goal

pub returns-in_err-left-clause-value : goal.returns-in_err-left-clause-value
returns-in_err-left-clause-value c =
    same_answer _ _ (SumFits c.args.self.now c.args.other.now) (c.args.self.now +ℚ c.args.other.now) (search rules)
    (checked_sum_exact c.args.self.now c.args.other.now)

pub returns-in_err-right-clause-value : goal.returns-in_err-right-clause-value
returns-in_err-right-clause-value c =
    same_answer _ _ (SumFits c.args.self.now c.args.other.now) (c.args.self.now +ℚ c.args.other.now) (search rules)
    (checked_sum_exact c.args.self.now c.args.other.now)

pub returns-in_err-sum-clause-value : goal.returns-in_err-sum-clause-value
returns-in_err-sum-clause-value c =
    same_answer _ _ (SumFits c.args.self.now c.args.other.now) (c.args.self.now +ℚ c.args.other.now) (search rules)
    (checked_sum_exact c.args.self.now c.args.other.now)

pub returns-in_err-den-clause-value : goal.returns-in_err-den-clause-value
returns-in_err-den-clause-value c =
    same_answer _ _ (SumFits c.args.self.now c.args.other.now) (c.args.self.now +ℚ c.args.other.now) (search rules)
    (checked_sum_exact c.args.self.now c.args.other.now)

pub reduced-requires : goal.reduced-requires
reduced-requires c =
    product_positive_ℤ c.args.self.now c.args.other.now c.in_ok-den.den (search rules)
    (product_known c.den-3.result c.den-4.result c.in_ok-den.den _ _ (search rules)
    (search rules) c.den-3.ensures c.den-4.ensures c.in_ok-den.ensures.1)

pub returns-clause-exact : goal.returns-clause-exact
unfolding ◌+ℚ◌
returns-clause-exact c =
    let x = c.args.self.now in
    let y = c.args.other.now in
    let l = product_known c.num.result c.den.result c.in_ok-left.left x.numerator (pos y.denominator) (search rules)
    (search rules) c.num.ensures c.den.ensures c.in_ok-left.ensures.1 in
    let r = product_known c.num-2.result c.den-2.result c.in_ok-right.right y.numerator (pos x.denominator) (search rules)
    (search rules) c.num-2.ensures c.den-2.ensures c.in_ok-right.ensures.1 in
    let fits_l : FitsSigned w128 c.in_ok-left.left = search rules in
    let fits_r : FitsSigned w128 c.in_ok-right.right = search rules in
    let s = sum_known c.in_ok-left.left c.in_ok-right.right c.in_ok-sum.sum (x.numerator *ℤ pos y.denominator)
    (y.numerator *ℤ pos x.denominator) fits_l fits_r l r c.in_ok-sum.ensures.1 in
    let d = product_known c.den-3.result c.den-4.result c.in_ok-den.den (pos x.denominator) (pos y.denominator) (search rules)
    (search rules) c.den-3.ensures c.den-4.ensures c.in_ok-den.ensures.1 in
    let fits_s : FitsSigned w128 c.in_ok-sum.sum = search rules in
    let fits_d : FitsSigned w128 c.in_ok-den.den = search rules in (
      record {
        left = subst (λ z. FitsSigned w128 z) l fits_l;
        right = subst (λ z. FitsSigned w128 z) r fits_r;
        sum =
            subst (λ z. FitsSigned w128 z) s fits_s;
        denominator = subst (λ z. FitsSigned w128 z) d fits_d;
      },
      reduced_known c.reduced.result c.in_ok-sum.sum c.in_ok-den.den _ (x.denominator * y.denominator) fits_s fits_d s d c.reduced.ensures,
    )

pub returns-clause-value : goal.returns-clause-value
returns-clause-value c =
    same_answer _ _ (SumFits c.args.self.now c.args.other.now) (c.args.self.now +ℚ c.args.other.now) (returns-clause-exact c)
    (checked_sum_exact c.args.self.now c.args.other.now)
