use Rattle.std.proofs.Common.{rules, ◌≡◌, ◌*◌, ◌/◌, ◌*ℤ◌, pos, sym, ap, arith, subst, FitsSigned, unsigned_abs, to_z, of_z}
use Rattle.std.specs.Int.{w128}
use Rattle.std.proofs.lemmas.Int.{unsigned_abs-mul}
use Rattle.kernel_step.proofs.Intervals.{plain}
use Rattle.kernel_joint.proofs.JointValues.{times_fits}
use Rattle.kernel_joint.proofs.JointRows.{factor_times}
use Rattle.kernel_joint.proofs.Rooms.{below_most}
use Rattle.kernel_joint.proofs.joint_row.some_factor.Goals as goal

pub times-requires-clause-small : goal.times-requires-clause-small
times-requires-clause-small c = below_most c.args._number_width _
    (factor_times c.args._number_width c.args.old.now c.args.coefficient.now c.args.e c.args.d c.requires.some c.requires.there
    c.requires.size).0

pub times_of-requires-clause-factor : goal.times_of-requires-clause-factor
times_of-requires-clause-factor c = rw c.times.ensures (below_most c.args._number_width _ (factor_times c.args._number_width c.args.old.now
    c.args.coefficient.now c.args.e c.args.d c.requires.some c.requires.there c.requires.size).0)

pub times_of-requires-clause-size : goal.times_of-requires-clause-size
times_of-requires-clause-size c =
    let both = factor_times c.args._number_width c.args.old.now c.args.coefficient.now c.args.e c.args.d c.requires.some c.requires.there
    c.requires.size in
    rw c.times.ensures
    (let number : unsigned_abs (to_z w128 (of_z w128 c.num.result)) ≡ unsigned_abs c.args.coefficient.now.numerator = search rules
    in rw number (below_most c.args._number_width _ both.1))

pub returns-clause-small : goal.returns-clause-small
returns-clause-small c =
    let both = factor_times c.args._number_width c.args.old.now c.args.coefficient.now c.args.e c.args.d c.requires.some c.requires.there
    c.requires.size in
    let number = c.args.coefficient.now.numerator in
    let n = c.args.e / c.args.coefficient.now.denominator * (c.args.d / unsigned_abs c.args.old.now.denominator) in
    let k = c.times_of.result in
    let value : k ≡ number *ℤ pos n = search rules in
    rw (plain k (subst (FitsSigned w128) (sym value) (times_fits number n (below_most c.args._number_width _ both.1))))
    (omega (arith, ap unsigned_abs value, unsigned_abs-mul number (pos n), both.1))
