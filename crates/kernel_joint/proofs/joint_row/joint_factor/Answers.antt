use Rattle.kernel_joint.proofs.Rooms.{small_plain}
use Rattle.kernel_joint.proofs.JointRows.{factor_term, factor_size}
use Rattle.kernel_joint.proofs.joint_row.joint_factor.Goals as goal

pub returns-clause-term : goal.returns-clause-term
returns-clause-term c =
    let k = c.some_factor.result in
    rw (small_plain c.args.number_width k c.some_factor.ensures.small)
    (factor_term c.args.old.now c.args.coefficient.now k c.args.e c.args.d c.requires.whole c.requires.over c.some_factor.ensures.value)

pub returns-clause-size : goal.returns-clause-size
returns-clause-size c =
    let k = c.some_factor.result in
    rw (small_plain c.args.number_width k c.some_factor.ensures.small)
    (factor_size c.args.old.now c.args.coefficient.now k c.args.e c.args.d c.some_factor.ensures.value)
