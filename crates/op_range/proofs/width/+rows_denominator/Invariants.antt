use Rattle.std.proofs.Common.{length}
use Rattle.op_range.proofs.width.+rows_denominator.Given as goal

abbrev pub decreases-rows_denominator : goal.decreases-rows_denominator
decreases-rows_denominator l = length l.rows.now
