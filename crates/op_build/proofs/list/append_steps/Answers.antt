use Rattle.std.proofs.Common.{sym}
use Rattle.op_build.proofs.recipe.StepLists.{next_is_list, one_step_more}
use Rattle.op_build.proofs.list.append_steps.Goals as goal

pub append_step-requires : goal.append_step-requires
append_step-requires c =
    rw c.loop-step.invariant (next_is_list c.args.list.now c.args.steps.now c.loop-step.step-index c.step-item.result c.loop-step-test.true
    c.step-item.is c.requires)

pub loop-step-preserved : goal.loop-step-preserved
loop-step-preserved c =
    rw (c.in_ok-append_step.ensures.ok, c.loop-step.invariant)
    (sym (one_step_more c.args.list.now c.args.steps.now c.loop-step.step-index c.step-item.result c.loop-step-test.true c.step-item.is))
