use Rattle.std.proofs.Common.{◌≡◌, ℕ, ◌+◌, ◌*◌, ◌<◌, ◌≤◌, slice_index_or}
use Rattle.op_list.specs.Values.{entry}
use Rattle.op_list.specs.Apply.{cleared_number}
use Rattle.kernel_step.proofs.clear.clear_numbers.Given as goal

abbrev pub invariant-loop-v : goal.invariant-loop-v
invariant-loop-v g l = record {
  set : (v i : ℕ) (d : _) → v < l.v → i < 64
      → g.W.WholeNumber.number (slice_index_or l.values (64 * v + i) d)
      ≡ cleared_number (entry l.entries v) (g.W.WholeNumber.number (slice_index_or l.initial.values (64 * v + i) d));
  rest : (j : ℕ) (d : _) → 64 * l.v ≤ j → slice_index_or l.values j d ≡ slice_index_or l.initial.values j d;
}
