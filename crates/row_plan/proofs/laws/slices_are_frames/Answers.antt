use Rattle.row_plan.proofs.SlicePlanes.{slices_are_frames}
use Rattle.row_plan.proofs.laws.slices_are_frames.Goals as goal

pub returns : goal.returns
returns c = slices_are_frames
