use Rattle.op_build.proofs.recipe.Typed.{recipe_is_list}
use Rattle.op_build.proofs.laws.recipe_is_list.Goals as goal

pub returns : goal.returns
returns c = recipe_is_list
