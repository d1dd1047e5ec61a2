use Rattle.std.proofs.Common.{◌≡◌, ℕ, ◌<◌, length}
use Rattle.op_list.specs.Types.{is_rational}
use Rattle.op_list.specs.Values.{entry}
use Rattle.kernel_step.specs.Forms.{IsCleared, extent_at, factor, factors_at, width_of}
use Rattle.kernel_step.proofs.clear.clear_form.Given as goal

abbrev pub invariant-loop-v : goal.invariant-loop-v
invariant-loop-v l = record {
  count : l.after.count ≡ l.v;
  extents : length l.after.extents ≡ 4;
  factors : length l.after.factors ≡ 4;
  values : (v : ℕ) → v < l.v → IsCleared (width_of l.number_width) (is_rational l.stage) l.before v (entry l.entries v)
      (factor (factors_at l.after v) 0) (extent_at l.after v);
}
