use Rattle.std.proofs.Common.{◌≡◌, ℕ, ◌+◌, ◌<◌, ◌≤◌, ◌⊎◌, slice_index_or}
use Rattle.kernel_lane.proofs.parts.fill_part.Given as goal

abbrev pub invariant-loop-k : goal.invariant-loop-k
invariant-loop-k g l = record {
  set : (k : ℕ) (d : _) → k < l.k → slice_index_or l.v (l.at + k) d ≡ l.x;
  kept : (i : ℕ) (d : _) → (i < l.at) ⊎ (l.at + l.k ≤ i) → slice_index_or l.v i d ≡ slice_index_or l.initial.v i d;
}
