use Rattle.std.proofs.Common.{◌≡◌, ℕ, ◌<◌, ◌≤◌, ◌⊎◌, slice_index_or}
use Rattle.kernel_lane.proofs.parts.fill_between.Given as goal

abbrev pub invariant-loop-i : goal.invariant-loop-i
invariant-loop-i g l = record {
  set : (i : ℕ) (d : _) → l.first ≤ i → i < l.i → slice_index_or l.v i d ≡ l.x;
  kept : (i : ℕ) (d : _) → (i < l.first) ⊎ (l.end ≤ i) → slice_index_or l.v i d ≡ slice_index_or l.initial.v i d;
}
