use Rattle.op_build.proofs.recipe.Frames.{is_whole}
use Rattle.op_build.proofs.laws.recipe_is_whole.Goals as goal

pub returns : goal.returns
returns c = is_whole
