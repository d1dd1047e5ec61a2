use Rattle.op_range.proofs.FractionBoundSteps.{bounds_are_enough}
use Rattle.op_range.proofs.laws.bounds_are_enough.Goals as goal

pub returns : goal.returns
returns c = bounds_are_enough
