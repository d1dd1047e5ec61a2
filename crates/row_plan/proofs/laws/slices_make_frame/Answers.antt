use Rattle.row_plan.proofs.SlicePlanes.{slices_make_frame}
use Rattle.row_plan.proofs.laws.slices_make_frame.Goals as goal

pub returns : goal.returns
returns c = slices_make_frame
