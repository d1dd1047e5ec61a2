use Rattle.std.proofs.Common.{◌<◌, subst, sym}
use Rattle.frac_math.specs.LowestTerms.{gcd_pos}
use Rattle.op_range.proofs.capped.factor.Goals as goal

pub nonzero_div-result : goal.nonzero_div-result
nonzero_div-result c = subst (λ g. 0 < g) (sym c.common_divisor.ensures) (gcd_pos c.args.a c.args.b c.requires)
