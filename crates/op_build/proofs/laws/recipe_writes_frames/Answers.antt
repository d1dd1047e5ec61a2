use Rattle.op_build.proofs.recipe.Frames.{writes_frames}
use Rattle.op_build.proofs.laws.recipe_writes_frames.Goals as goal

pub returns : goal.returns
returns c = writes_frames
