use Rattle.std.proofs.Common.{length}
use Rattle.op_range.proofs.width.+reached.Given as goal

abbrev pub decreases-reached : goal.decreases-reached
decreases-reached l = length l.ops.now
