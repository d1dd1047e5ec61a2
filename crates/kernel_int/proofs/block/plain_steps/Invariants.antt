use Rattle.std.proofs.Common.{◌≡◌, ℕ, ◌-◌, ◌≤◌, List}
use Rattle.kernel_step.specs.Forms.{AreRuns, IsState, IsBounded, form_at, stage_before, values_before}
use Rattle.kernel_int.proofs.block.plain_steps.Given as goal

abbrev pub invariant-loop-k : goal.invariant-loop-k
invariant-loop-k g l = record {
  stage : l.stage ≡ stage_before l.ops l.k;
  bounded : IsBounded g.W.WholeNumber.number g.N.Numerator.value (stage_before l.ops l.k) (form_at l.forms (l.k - 1)) l.values l.numbers;
  lanes : AreRuns g.W.WholeNumber.number g.N.Numerator.value l.ops l.k l.position (form_at l.forms (l.k - 1)) l.values l.numbers;
  holds : (frames : ℕ → List ℕ) (n : ℕ) → n ≤ 64
      → IsState g.W.WholeNumber.number g.N.Numerator.value (stage_before l.ops l.fn.first) (form_at l.forms (l.fn.first - 1))
      l.initial.values l.initial.numbers n (λ i. values_before l.ops (frames i) l.position l.fn.first i)
      → IsState g.W.WholeNumber.number g.N.Numerator.value (stage_before l.ops l.k) (form_at l.forms (l.k - 1)) l.values l.numbers n
      (λ i. values_before l.ops (frames i) l.position l.k i);
}
