use Rattle.std.proofs.Common.{◌∙◌, ◌≡◌, arith, sym, ap}
use Rattle.frac_math.specs.Gcd.{gcd}
use Rattle.frac_math.proofs.Euclid.{gcd-zero, gcd-step}
use Rattle.frac_math.proofs.divisor.common_divisor.Goals as goal

pub loop-y-preserved : goal.loop-y-preserved
loop-y-preserved c = gcd-step _ _ ∙ c.loop-y.invariant

pub returns-then-y-eq0 : goal.returns-then-y-eq0
returns-then-y-eq0 c = let z : c.loop-y.y ≡ 0 = omega arith in sym (gcd-zero _) ∙ ap (gcd c.loop-y.x) (sym z) ∙ c.loop-y.invariant

pub returns : goal.returns
returns c = c.short_divisor.ensures ∙ gcd-step _ _ ∙ c.loop-y.invariant
