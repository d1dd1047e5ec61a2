use Rattle.std.proofs.Common.{◌≡◌, ℕ, ◌+◌, ◌*◌, ◌<◌, ◌≤◌, slice_index_or}
use Rattle.op_list.specs.Values.{entry}
use Rattle.kernel_step.specs.Forms.{cleared_numerator, factor, factors_at}
use Rattle.kernel_step.proofs.clear.clear_fractions.Given as goal

abbrev pub invariant-loop-v : goal.invariant-loop-v
invariant-loop-v g l = record {
  set : (v i : ℕ) (d : _) → v < l.v → i < 64
      → g.N.Numerator.value (slice_index_or l.numbers (64 * v + i) d)
      ≡ cleared_numerator (entry l.entries v) (factor (factors_at l.after v) 0)
      (g.N.Numerator.value (slice_index_or l.initial.numbers (64 * v + i) d));
  rest : (j : ℕ) (d : _) → 64 * l.v ≤ j → slice_index_or l.numbers j d ≡ slice_index_or l.initial.numbers j d;
}
