use Rattle.std.proofs.Common.{ℕ, ◌^◌, ◌<◌, ◌≤ℤ◌, ◌<ℤ◌, pos, slice_index_or}
use Rattle.kernel_lane.proofs.tests.fill.Given as goal

abbrev pub invariant-loop-i : goal.invariant-loop-i
invariant-loop-i l = record {
  small : (i : ℕ) (x : _) → i < l.i → (pos 0 ≤ℤ slice_index_or l.v i x) × (slice_index_or l.v i x <ℤ pos (2 ^ 16));
}
