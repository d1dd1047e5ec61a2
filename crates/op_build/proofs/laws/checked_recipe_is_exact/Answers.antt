use Rattle.op_build.proofs.bounds.Frames.{checked_is_there}
use Rattle.op_build.proofs.laws.checked_recipe_is_exact.Goals as goal

pub returns : goal.returns
returns c = checked_is_there
