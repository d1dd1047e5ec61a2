use Rattle.std.proofs.Common.{rules, ◌≡◌, ◌*◌, max, pos, unsigned_abs}
use Rattle.kernel_step.specs.Forms.{factor}
use Rattle.kernel_joint.specs.Joint.{IsAround, extent_size}
use Rattle.kernel_joint.proofs.JointValues.{maximum_made}
use Rattle.kernel_joint.proofs.joint_value.joint_at_least.Goals as goal

pub returns-clause-made : goal.returns-clause-made
returns-clause-made c =
    let old = c.args.old.now in
    let e = c.args.e in
    let cut = c.number_over_both-cut.result in
    let new = c.made.result.extent in
    let k : factor c.made.result.factors 0 ≡ pos e = search rules in
    let around : IsAround c.around.result (unsigned_abs old.denominator * e) c.max-size.result = search rules in
    let denominator : new.denominator ≡ c.around.result.denominator = search rules in
    let kept : new.greatest ≡ c.around.result.greatest = search rules in
    let given : new.least ≡ cut = search rules in
    let size : c.max-size.result ≡ max (extent_size old * e) (unsigned_abs cut) = search rules in
    maximum_made c.args._number_width old new c.around.result c.args.limit.now e c.max-size.result
    (factor c.made.result.factors 0) cut c.requires.positive c.requires.some.0 k c.requires.some.1
    around denominator kept given size (search rules) (search rules)
