use Rattle.std.proofs.Common.{length}
use Rattle.op_range.proofs.state.+append_states.Given as goal

abbrev pub decreases-append_states : goal.decreases-append_states
decreases-append_states l = length l.ops.now
