use Rattle.std.proofs.Common.{◌≡◌, ℕ, ◌+◌, ◌*◌, ◌<◌, ◌≤◌, slice_index_or}
use Rattle.kernel_planes.proofs.rest.clear_rest.Given as goal

abbrev pub invariant-loop-v : goal.invariant-loop-v
invariant-loop-v g l = record {
  zero : (v i : ℕ) (d : _) → v < l.v → l.n ≤ i → i < 64 → g.W.WholeNumber.number (slice_index_or l.values (64 * v + i) d) ≡ 0;
  kept : (v i : ℕ) (d : _) → v < 4 → i < l.n
      → slice_index_or l.values (64 * v + i) d ≡ slice_index_or l.fn.values (64 * v + i) d;
}
