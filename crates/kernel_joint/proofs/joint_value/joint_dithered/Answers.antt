use Rattle.std.proofs.Common.{rules, ◌≡◌, ◌+◌, ◌*◌, ◌/◌, pos, unsigned_abs}
use Rattle.kernel_step.specs.Forms.{factor}
use Rattle.kernel_joint.specs.Joint.{IsAround, extent_size}
use Rattle.kernel_joint.proofs.JointValues.{dithered_made}
use Rattle.kernel_joint.proofs.joint_value.joint_dithered.Goals as goal

pub returns-clause-made : goal.returns-clause-made
returns-clause-made c =
    λ count place.
    let old = c.args.old.now in
    let d = c.args.d in
    let h = d / unsigned_abs old.denominator in
    let k : factor c.made.result.factors 0 ≡ pos h = search rules in
    let unit : factor c.made.result.factors 1 ≡ pos (d / c.args.places) = search rules in
    let around : IsAround c.made.result.extent d (extent_size old * h + d) = search rules in
    dithered_made c.args._number_width old c.made.result.extent count c.args.places d h (factor c.made.result.factors 0)
    (factor c.made.result.factors 1) c.requires.positive c.requires.denominator.0 place
    c.requires.over c.requires.whole c.requires.denominator.1 c.requires.size k unit around
