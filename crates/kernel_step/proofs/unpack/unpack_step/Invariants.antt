use Rattle.std.proofs.Common.{◌≡◌, ℕ, ◌+◌, ◌*◌, ◌/◌, ◌%◌, ◌^◌, ◌<◌, slice_index, slice_index_or}
use Rattle.op_list.specs.Whole.{bits_below}
use Rattle.kernel_step.proofs.unpack.unpack_step.Given as goal

abbrev pub invariant-loop-v : goal.invariant-loop-v
invariant-loop-v g l = (v i : ℕ) (d : _) → v < l.v → i < 64
    → g.W.WholeNumber.number (slice_index_or l.values (64 * v + i) d) ≡ g.W.WholeNumber.number (slice_index_or l.spare i d)
    / 2 ^ bits_below l.widths v % 2 ^ slice_index l.widths v
