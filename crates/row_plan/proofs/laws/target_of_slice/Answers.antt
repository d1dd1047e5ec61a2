use Rattle.row_plan.proofs.SliceTargets.{target_of_slice}
use Rattle.row_plan.proofs.laws.target_of_slice.Goals as goal

pub returns : goal.returns
returns c = target_of_slice
