use Rattle.std.proofs.Common.{◌*ℤ◌, pos, sym, ap, ◌∙◌, arith, subst, FitsSigned, to_z, of_z}
use Rattle.std.specs.Int.{w128}
use Rattle.kernel_step.specs.declared.form.NumberWidth.TheVariants.{Bits128}
use Rattle.kernel_step.proofs.Intervals.{plain}
use Rattle.kernel_joint.proofs.JointValues.{times_plain, times_fits}
use Rattle.kernel_joint.proofs.Rooms.{small_fits}
use Rattle.kernel_joint.proofs.joint_value.times_of.Goals as goal

pub overflow_cast-result : goal.overflow_cast-result
overflow_cast-result c = small_fits Bits128 (pos c.args.n) c.args.n (omega arith) c.requires.factor

pub overflow_mul-result : goal.overflow_mul-result
overflow_mul-result c = subst (FitsSigned w128) (sym (times_plain c.args.number c.args.n c.ranges.number c.requires.factor))
    (times_fits c.args.number c.args.n c.requires.size)

pub returns : goal.returns
returns c = ap (λ z. to_z w128 (of_z w128 z)) (times_plain c.args.number c.args.n c.ranges.number c.requires.factor)
    ∙ plain (c.args.number *ℤ pos c.args.n) (times_fits c.args.number c.args.n c.requires.size)
