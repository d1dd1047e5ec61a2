use Rattle.std.proofs.Common.{◌≡◌, ◌-◌, length}
use Rattle.kernel_step.specs.Forms.{AreSteps, AreFew, form_at, stage_before, bits_of, width_of}
use Rattle.kernel_joint.specs.Joint.{IsJoint, IsWalked}
use Rattle.kernel_joint.proofs.joint_list.joint_forms.Given as goal

abbrev pub invariant-loop-k : goal.invariant-loop-k
invariant-loop-k l = record {
  count : length l.forms.items ≡ l.k;
  few : AreFew l.forms.items;
  steps : AreSteps l.ops l.forms.items (bits_of l.storage) (width_of l.number_width) l.k;
  stage : l.stage ≡ stage_before l.ops l.k;
  walked : IsWalked l.number_width l.ops l.k l.width;
  joint : IsJoint l.stage (form_at l.forms.items (l.k - 1)) l.width;
}
