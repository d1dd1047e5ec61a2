use Rattle.op_build.proofs.recipe.Frames.{reads_frames}
use Rattle.op_build.proofs.laws.recipe_reads_frames.Goals as goal

pub returns : goal.returns
returns c = reads_frames
