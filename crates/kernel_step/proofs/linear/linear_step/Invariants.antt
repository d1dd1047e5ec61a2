use Rattle.std.proofs.Common.{◌≡◌, ℕ, ◌+◌, ◌*◌, ◌<◌, slice_index_or}
use Rattle.kernel_step.specs.Rules.{row_sum, lane_numbers}
use Rattle.kernel_step.specs.Forms.{factors_at}
use Rattle.kernel_step.proofs.linear.linear_step.Given as goal

abbrev pub invariant-loop-v : goal.invariant-loop-v
invariant-loop-v g l = (v i : ℕ) (d : _) → v < l.v → i < 64
    → g.N.Numerator.value (slice_index_or l.sums (64 * v + i) d)
    ≡ row_sum (factors_at l.after v) (lane_numbers g.N.Numerator.value l.numbers i d) 4
