use Rattle.std.proofs.Common.{◌≡◌, ◌-◌}
use Rattle.slice_claim.specs.Machine.{IsFree}
use Rattle.slice_claim.specs.Board.{job_count, hand_state, IsHandOf}
use Rattle.frame_slices.specs.Workers.{least_next}
use Rattle.frame_slices.proofs.workers.work.Given as goal

abbrev pub invariant-loop-held : goal.invariant-loop-held
invariant-loop-held g l =
    IsHandOf g.J.Work.origin l.board l.hand × IsFree (hand_state l.hand) × ((hand_state l.hand).share ≡ (hand_state l.initial.hand).share)

abbrev pub decreases-loop-held : goal.decreases-loop-held
decreases-loop-held g l = job_count l.board - least_next (hand_state l.hand).last
