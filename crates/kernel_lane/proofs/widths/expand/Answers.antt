use Rattle.std.proofs.Common.{arith}
use Rattle.kernel_lane.proofs.widths.expand.Goals as goal

pub returns : goal.returns
returns g c i x y below = c.merge.ensures i 0 x y (omega (arith, c.requires.same))
