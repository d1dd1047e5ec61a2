use Rattle.std.proofs.Common.{length}
use Rattle.op_opt.proofs.edit.+first_place_without_ranges.Given as goal

abbrev pub decreases-first_place_without_ranges : goal.decreases-first_place_without_ranges
decreases-first_place_without_ranges l = length l.ops.now
