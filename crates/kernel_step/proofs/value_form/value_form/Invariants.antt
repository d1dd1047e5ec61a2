use Rattle.std.proofs.Common.{◌≡◌, ℕ, ◌<◌, length}
use Rattle.kernel_step.specs.Forms.{extent_at, factor, factors_at, width_of}
use Rattle.kernel_step.specs.ValueSteps.{IsMade}
use Rattle.kernel_step.proofs.value_form.value_form.Given as goal

abbrev pub invariant-loop-v : goal.invariant-loop-v
invariant-loop-v l = record {
  count : l.after.count ≡ l.v;
  extents : length l.after.extents ≡ 4;
  factors : length l.after.factors ≡ 4;
  made : (v : ℕ) → v < l.v → (v < l.before.count) × IsMade (width_of l.number_width) l.op v (extent_at l.before v)
      (factor (factors_at l.after v) 0) (factor (factors_at l.after v) 1) (extent_at l.after v);
}
