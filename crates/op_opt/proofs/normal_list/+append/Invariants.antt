use Rattle.std.proofs.Common.{length}
use Rattle.op_opt.proofs.normal_list.+append.Given as goal

abbrev pub decreases-append : goal.decreases-append
decreases-append l = length l.ops.now
