use Rattle.std.proofs.Common.{◌≡◌, ℕ, ◌+◌, ◌*◌, ◌<◌, ◌≤◌, ◌⊎◌, slice_index_or}
use Rattle.kernel_lane.proofs.picks.pick_lanes.Given as goal

abbrev pub invariant-loop-i : goal.invariant-loop-i
invariant-loop-i g l = record {
  set : (i : ℕ) (d : _) → l.first ≤ i → i < l.i → slice_index_or l.to i d ≡ slice_index_or l.from (i * l.step + l.at) d;
  kept : (i : ℕ) (d : _) → (i < l.first) ⊎ (l.i ≤ i) → slice_index_or l.to i d ≡ slice_index_or l.initial.to i d;
}
