use Rattle.op_build.proofs.recipe.Typed.{recipe_is_short}
use Rattle.op_build.proofs.laws.recipe_is_short.Goals as goal

pub returns : goal.returns
returns c = recipe_is_short
