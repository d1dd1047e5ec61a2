use Rattle.std.proofs.Common.{◌≡◌, ℕ, ◌+◌, ◌*◌, ◌<◌, slice_index_or}
use Rattle.kernel_step.proofs.pack.pack_step.Given as goal

abbrev pub invariant-loop-v : goal.invariant-loop-v
invariant-loop-v g l = record {
  others : (v i : ℕ) (d : _) → 0 < v → v < l.v → i < 64 → g.W.WholeNumber.number (slice_index_or l.values (64 * v + i) d) ≡ 0;
  first : (i : ℕ) (d : _) → i < 64 → slice_index_or l.values i d ≡ slice_index_or l.initial.values i d;
}
