use Rattle.std.proofs.Common.{◌≡◌, length}
use Rattle.kernel_step.specs.Forms.{AreSteps, AreFew, stage_before, bits_of, width_of}
use Rattle.kernel_step.proofs.own_forms.forms_of.Given as goal

abbrev pub invariant-loop-k : goal.invariant-loop-k
invariant-loop-k l = record {
  count : length l.forms.items ≡ l.k;
  few : AreFew l.forms.items;
  steps : AreSteps l.ops l.forms.items (bits_of l.storage) (width_of l.number_width) l.k;
  stage : l.stage ≡ stage_before l.ops l.k;
}
