use Rattle.std.proofs.Common.{rules, ◌≡◌, ◌*◌, pos, unsigned_abs}
use Rattle.kernel_step.specs.Forms.{factor}
use Rattle.kernel_joint.specs.Joint.{IsAround, extent_size}
use Rattle.kernel_joint.proofs.JointValues.{raised_made}
use Rattle.kernel_joint.proofs.joint_value.joint_raised.Goals as goal

pub returns-clause-made : goal.returns-clause-made
returns-clause-made c =
    let old = c.args.old.now in
    let e = c.args.e in
    let k : factor c.made.result.factors 0 ≡ pos e = search rules in
    let around : IsAround c.made.result.extent (unsigned_abs old.denominator * e) (extent_size old * e) = search rules in
    raised_made c.args._number_width old c.made.result.extent e
    (factor c.made.result.factors 0) c.requires.positive c.requires.some.0 k c.requires.some.1 around
    c.requires.size
