use Rattle.std.specs.Int.{w128}
use Rattle.std.proofs.lemmas.Int.{to_z-of_z}
use Rattle.frac_math.proofs.Reduction.{whole_reduced, over_one}
use Rattle.frac_math.proofs.frac.Frac.whole.Goals as goal

pub invariant_of-result : goal.invariant_of-result
invariant_of-result c = whole_reduced _

pub returns : goal.returns
returns c = rw (to_z-of_z w128 c.args.n c.ranges.n) (over_one c.args.n)
