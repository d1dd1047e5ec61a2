use Rattle.row_plan.proofs.SliceTargets.{targets_make_frame}
use Rattle.row_plan.proofs.laws.targets_make_frame.Goals as goal

pub returns : goal.returns
returns c = targets_make_frame
