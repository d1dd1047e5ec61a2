use Rattle.std.proofs.Common.{◌≡◌, ℕ, ◌*◌, ◌<◌, ◌≤◌, slice_index_or}
use Rattle.kernel_planes.specs.Block.{pixel_at}
use Rattle.kernel_step.specs.Forms.{extent_at}
use Rattle.kernel_step.specs.ValueSteps.{MakesValue, makes}
use Rattle.kernel_step.proofs.value_step.value_step.Given as goal

abbrev pub invariant-loop-v : goal.invariant-loop-v
invariant-loop-v g l = record {
  made : (v : ℕ) → v < l.v → MakesValue g.N.Numerator.value l.initial.numbers l.numbers v (extent_at l.before v) (extent_at l.after v)
      (λ i x. makes l.op v (pixel_at l.position i) x);
  rest : (j : ℕ) (d : _) → 64 * l.v ≤ j → slice_index_or l.numbers j d ≡ slice_index_or l.initial.numbers j d;
}
