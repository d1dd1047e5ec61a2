use Rattle.slice_claim.specs.Board.{hand_state}
use Rattle.frame_slices.proofs.workers.+fn-share_out-join_mut+arg3+share_out.Given as goal

abbrev pub decreases-join_mut+arg3 : goal.decreases-join_mut+arg3
decreases-join_mut+arg3 g l = (hand_state l.mine.now).share

abbrev pub decreases-share_out : goal.decreases-share_out
decreases-share_out g l = (hand_state l.hand.now).share
