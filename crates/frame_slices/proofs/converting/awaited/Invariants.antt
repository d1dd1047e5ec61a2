-- The jobs of the first cells.
use Rattle.std.proofs.Common.{◌≡◌, ◌≤◌, ◌∷◌, [], length, map, take}
use Rattle.std.specs.Vec.{vec_capacity}
use Rattle.std.specs.Sync.OnceLock.{Named}
use Rattle.slice_claim.specs.Board.{AreNumbered}
use Rattle.row_plan.specs.Jobs.{pair_before}
use Rattle.frame_slices.specs.Awaited.{awaited_number, awaited_origin}
use Rattle.frame_slices.proofs.converting.awaited.Given as goal

abbrev pub invariant-loop-k : goal.invariant-loop-k
invariant-loop-k l = record {
  count : length l.jobs.items ≡ l.k;
  room : length l.cells ≤ vec_capacity l.jobs;
  numbered : AreNumbered awaited_number l.jobs.items;
  origins : map awaited_origin l.jobs.items ≡ map (λ (cell : Named). pair_before l.plan.pair (cell.id ∷ [])) (take l.k l.cells);
}
