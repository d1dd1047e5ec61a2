use Rattle.std.proofs.Common.{◌≡◌, ◌∙◌, sym, drop, ◌+◌}
use Rattle.std.specs.Prelude.{Some, None}
use Rattle.std.proofs.lemmas.List.{drop_all}
use Rattle.op_list.specs.Checked.{checked_apply}
use Rattle.op_list.proofs.Steps.{next_op, first_may_apply, rest_may_run}
use Rattle.op_list.proofs.Runs.{run-none, run-some, run_end}
use Rattle.op_list.proofs.run.values_after.Goals as goal

pub apply-requires : goal.apply-requires
apply-requires c =
    let next = next_op c.args.ops.now c.loop-op.op-index c.op-item.result c.loop-op-test.true c.op-item.is in
    first_may_apply _ _ _ _ (drop (c.loop-op.op-index + 1) c.args.ops.now) _ (rw next at c.loop-op.invariant.rest)

pub returns-in_err-values : goal.returns-in_err-values
returns-in_err-values c =
    let next = next_op c.args.ops.now c.loop-op.op-index c.op-item.result c.loop-op-test.true c.op-item.is in
    let none : checked_apply c.args.frame.now c.args.position.now c.loop-op.stage c.op-item.result c.loop-op.values ≡ None =
    sym c.apply.ensures ∙ c.in_err-values.was in
    rw (c.from_residual.ensures, c.loop-op.invariant.same, next)
    (sym (run-none _ _ _ _ (drop (c.loop-op.op-index + 1) c.args.ops.now) _ none))

pub loop-op-preserved : goal.loop-op-preserved
loop-op-preserved c =
    let next = next_op c.args.ops.now c.loop-op.op-index c.op-item.result c.loop-op-test.true c.op-item.is in
    let rest = drop (c.loop-op.op-index + 1) c.args.ops.now in
    let some : checked_apply c.args.frame.now c.args.position.now c.loop-op.stage c.op-item.result c.loop-op.values
    ≡ Some c.in_ok-values.values = sym c.apply.ensures ∙ c.in_ok-values.was in
    record {
      rest = rw c.stage_after-stage.ensures (rest_may_run _ _ _ _ rest _ _ (rw next at c.loop-op.invariant.rest) some);
      same = rw (c.stage_after-stage.ensures, c.loop-op.invariant.same, next) (run-some _ _ _ _ rest _ _ some);
    }

pub returns : goal.returns
returns c = sym (c.loop-op.invariant.same ∙ rw (drop_all c.loop-op.op-index c.args.ops.now c.loop-op-test.false) (run_end _ _ _ _))
