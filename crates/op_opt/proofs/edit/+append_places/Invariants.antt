use Rattle.std.proofs.Common.{length}
use Rattle.op_opt.proofs.edit.+append_places.Given as goal

abbrev pub decreases-append_places : goal.decreases-append_places
decreases-append_places l = length l.ops.now
