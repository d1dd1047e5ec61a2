use Rattle.std.proofs.Common.{◌≡◌, Some, rules, sym, ap, ◌∙◌}
use Rattle.frac_math.specs.Fraction.{ℚ, ◌*ℚ◌}
use Rattle.frac_math.specs.Checked.{ProductFits, checked_product}
use Rattle.frac_math.proofs.CheckedCalls.{checked_product_some}
use Rattle.frac_math.proofs.Zeros.{is_within, is_zero, times_nothing, nothing_times}
use Rattle.frac_math.proofs.frac.Frac.checked_mul.Goals as goal

-- what is answered for x * 0 and 0 * x
answer : (x y z : ℚ) → ProductFits x y × (z ≡ x *ℚ y) → Some z ≡ checked_product x y
answer x y z is = ap Some is.1 ∙ sym (checked_product_some x y is.0)

pub returns-then-right-eq0-clause-exact : goal.returns-then-right-eq0-clause-exact
returns-then-right-eq0-clause-exact c =
    let within = is_within c.self.inside.num c.self.inside.den c.args.self.now c.self.invariant (search rules)
    (search rules) c.self.view_is in
    let none = is_zero c.other.inside.num c.other.inside.den c.args.other.now c.other.invariant
    (search rules) c.other.view_is c.if-right-eq0.true in
    let is = times_nothing c.args.self.now c.args.other.now within none in
    (is.0, c.other.view_is ∙ is.1)

pub returns-then-right-eq0-clause-value : goal.returns-then-right-eq0-clause-value
returns-then-right-eq0-clause-value c = answer _ _ _ (returns-then-right-eq0-clause-exact c)

pub returns-then-left-eq0-clause-exact : goal.returns-then-left-eq0-clause-exact
returns-then-left-eq0-clause-exact c =
    let within = is_within c.other.inside.num c.other.inside.den c.args.other.now c.other.invariant (search rules)
    (search rules) c.other.view_is in
    let none = is_zero c.self.inside.num c.self.inside.den c.args.self.now c.self.invariant
    (search rules) c.self.view_is c.if-left-eq0.true in
    let is = nothing_times c.args.self.now c.args.other.now within none in
    (is.0, c.self.view_is ∙ is.1)

pub returns-then-left-eq0-clause-value : goal.returns-then-left-eq0-clause-value
returns-then-left-eq0-clause-value c = answer _ _ _ (returns-then-left-eq0-clause-exact c)
