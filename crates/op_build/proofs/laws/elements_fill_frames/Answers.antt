use Rattle.op_build.proofs.recipe.Frames.{fills_frames}
use Rattle.op_build.proofs.laws.elements_fill_frames.Goals as goal

pub returns : goal.returns
returns c = fills_frames
