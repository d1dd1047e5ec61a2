use Rattle.std.proofs.Common.{length}
use Rattle.op_list.proofs.typing.+are_in_front.Given as goal

abbrev pub decreases-are_in_front : goal.decreases-are_in_front
decreases-are_in_front l = length l.counts.now
