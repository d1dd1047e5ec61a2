use Rattle.op_list.specs.Apply.{row_of}
use Rattle.kernel_step.specs.Forms.{extent_at, factors_at}
use Rattle.kernel_joint.specs.Joint.{RowMade}
use Rattle.kernel_step.proofs.Intervals.{four_cases}
use Rattle.kernel_joint.proofs.joint_form.joint_rows_form.Goals as goal

pub returns-clause-rows : goal.returns-clause-rows
returns-clause-rows c =
    let form = c.form_of.result in
    let is = c.form_of.ensures in
    λ v below. four_cases
    (λ v. RowMade c.args.number_width c.args.e c.args.d (row_of c.args.rows.now v) c.args.before.now (factors_at form v)
    (extent_at form v)) v below
    (rw (is.first.0, is.first.1) c.row_at-first.ensures) (rw (is.second.0, is.second.1) c.row_at-second.ensures)
    (rw (is.third.0, is.third.1) c.row_at-third.ensures) (rw (is.fourth.0, is.fourth.1) c.row_at-fourth.ensures)
