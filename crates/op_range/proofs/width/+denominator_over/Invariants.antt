use Rattle.std.proofs.Common.{length}
use Rattle.op_range.proofs.width.+denominator_over.Given as goal

abbrev pub decreases-denominator_over : goal.decreases-denominator_over
decreases-denominator_over l = length l.xs.now
