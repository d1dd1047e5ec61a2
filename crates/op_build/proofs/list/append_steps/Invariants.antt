-- The operations of the steps so far stand behind the list.
use Rattle.std.proofs.Common.{◌≡◌, ◌++◌, take}
use Rattle.op_build.specs.Steps.{operations}
use Rattle.op_build.proofs.list.append_steps.Given as goal

abbrev pub invariant-loop-step : goal.invariant-loop-step
invariant-loop-step l = l.list ≡ l.fn.list ++ operations (take l.step-index l.steps)
