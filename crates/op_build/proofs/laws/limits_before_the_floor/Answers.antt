use Rattle.op_build.proofs.convert.Clamp.{limits_before_floor}
use Rattle.op_build.proofs.laws.limits_before_the_floor.Goals as goal

pub returns : goal.returns
returns c = limits_before_floor
