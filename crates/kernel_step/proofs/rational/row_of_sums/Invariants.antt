use Rattle.std.proofs.Common.{◌≡◌, ℕ, ◌+◌, ◌*◌, ◌<◌, ◌≤◌, ◌⊎◌, slice_index_or}
use Rattle.kernel_step.specs.Rules.{row_sum, lane_numbers}
use Rattle.kernel_step.proofs.rational.row_of_sums.Given as goal

abbrev pub invariant-loop-j : goal.invariant-loop-j
invariant-loop-j g l = record {
  set : (i : ℕ) (d : _) → i < 64 → g.N.Numerator.value (slice_index_or l.sums (64 * l.v + i) d)
      ≡ row_sum l.row (lane_numbers g.N.Numerator.value l.numbers i d) l.j;
  kept : (j : ℕ) (d : _) → (j < 64 * l.v) ⊎ (64 * l.v + 64 ≤ j) → slice_index_or l.sums j d ≡ slice_index_or l.fn.sums j d;
}
