use Rattle.std.proofs.Common.{◌≡◌, ℕ, ◌+◌, ◌<◌, ◌≤◌, ◌⊎◌, slice_index_or}
use Rattle.kernel_lane.proofs.lanes.change_part.Given as goal

abbrev pub invariant-loop-k : goal.invariant-loop-k
invariant-loop-k g l = record {
  set : (k : ℕ) (x : _) → k < l.k → g.R.Change.makes l.rule (slice_index_or l.initial.v (l.at + k) x) (slice_index_or l.v (l.at + k) x);
  kept : (i : ℕ) (x : _) → (i < l.at) ⊎ (l.at + l.k ≤ i) → slice_index_or l.v i x ≡ slice_index_or l.initial.v i x;
}
