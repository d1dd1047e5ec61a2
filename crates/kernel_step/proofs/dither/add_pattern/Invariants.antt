use Rattle.std.proofs.Common.{◌≡◌, ℕ, ◌+◌, ◌*◌, ◌%◌, ◌<◌, ◌≤◌, ◌⊎◌, ◌+ℤ◌, slice_index_or}
use Rattle.kernel_step.proofs.dither.add_pattern.Given as goal

abbrev pub invariant-loop-part : goal.invariant-loop-part
invariant-loop-part g l = record {
  set : (i : ℕ) (d : _) → i < 16 * l.part → g.N.Numerator.value (slice_index_or l.numbers (64 * l.v + i) d)
      ≡ g.N.Numerator.value (slice_index_or l.initial.numbers (64 * l.v + i) d) +ℤ g.N.Numerator.value
      (slice_index_or l.addends (i % 16) d);
  kept : (j : ℕ) (d : _) → (j < 64 * l.v) ⊎ (64 * l.v + 16 * l.part ≤ j) → slice_index_or l.numbers j d ≡ slice_index_or l.initial.numbers
      j d;
}
