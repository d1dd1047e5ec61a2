use Rattle.op_build.proofs.recipe.Means.{means_target}
use Rattle.op_build.proofs.laws.recipe_means_target.Goals as goal

pub returns : goal.returns
returns c = means_target
