use Rattle.row_plan.proofs.PackedCopies.{copies_packed}
use Rattle.row_plan.proofs.laws.copies_packed.Goals as goal

pub returns : goal.returns
returns c = copies_packed
