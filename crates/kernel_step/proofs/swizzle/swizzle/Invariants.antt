use Rattle.std.proofs.Common.{◌≡◌, ◌≢◌, ℕ, ◌+◌, ◌*◌, ◌<◌, ◌≤◌, slice_index, slice_index_or}
use Rattle.kernel_step.proofs.swizzle.swizzle.Given as goal

abbrev pub invariant-loop-v : goal.invariant-loop-v
invariant-loop-v g l = (v i : ℕ) (d : _) → v < l.v → slice_index l.from v ≢ v → i < 64
    → slice_index_or l.spare (64 * v + i) d ≡ slice_index_or l.values (64 * slice_index l.from v + i) d

abbrev pub invariant-loop-v-2 : goal.invariant-loop-v-2
invariant-loop-v-2 g l = record {
  set : (v i : ℕ) (d : _) → v < l.v → i < 64 → slice_index_or l.values (64 * v + i) d
      ≡ slice_index_or l.initial.values (64 * slice_index l.from v + i) d;
  rest : (j : ℕ) (d : _) → 64 * l.v ≤ j → slice_index_or l.values j d ≡ slice_index_or l.initial.values j d;
}
