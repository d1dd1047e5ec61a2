use Rattle.std.proofs.Common.{rules, ◌≡◌, ◌*◌, ◌∙◌, unsigned_abs}
use Rattle.kernel_step.specs.Forms.{factor}
use Rattle.kernel_joint.specs.Joint.{IsAround, extent_size}
use Rattle.kernel_joint.proofs.JointValues.{scaling_made}
use Rattle.kernel_joint.proofs.joint_value.joint_scaled.Goals as goal

pub returns-clause-made : goal.returns-clause-made
returns-clause-made c =
    let old = c.args.old.now in
    let by = c.args.by.now in
    let k = factor c.made.result.factors 0 in
    let is : k ≡ c.scaling.result = search rules in
    let around : IsAround c.made.result.extent (unsigned_abs old.denominator * by.denominator)
    (extent_size old * unsigned_abs by.numerator) = search rules in
    scaling_made c.args._number_width old c.made.result.extent by k c.requires.positive
    (λ there. is ∙ c.scaling.ensures.some there) (λ nothing. is ∙ c.scaling.ensures.none nothing) around c.requires.size
