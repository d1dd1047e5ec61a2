use Rattle.std.proofs.Common.{◌≡◌, ℕ, ◌<◌, length}
use Rattle.op_list.specs.Apply.{row_of}
use Rattle.kernel_step.specs.Forms.{IsRow, extent_at, factors_at, width_of}
use Rattle.kernel_step.proofs.linear.linear_form.Given as goal

abbrev pub invariant-loop-v : goal.invariant-loop-v
invariant-loop-v l = record {
  count : l.after.count ≡ l.v;
  extents : length l.after.extents ≡ 4;
  factors : length l.after.factors ≡ 4;
  rows : (v : ℕ) → v < l.v → IsRow (width_of l.number_width) l.before (row_of l.rows v) (factors_at l.after v) (extent_at l.after v);
}
