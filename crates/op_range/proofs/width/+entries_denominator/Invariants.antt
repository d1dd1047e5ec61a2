use Rattle.std.proofs.Common.{length}
use Rattle.op_range.proofs.width.+entries_denominator.Given as goal

abbrev pub decreases-entries_denominator : goal.decreases-entries_denominator
decreases-entries_denominator l = length l.entries.now
