use Rattle.std.proofs.Common.{refl}
use Rattle.pix_desc.specs.Frame.{row_start}
use Rattle.row_plan.specs.Slices.{slice_of, joined}
use Rattle.row_plan.proofs.laws.worked_slices.Goals as goal

pub returns : goal.returns
unfolding slice_of joined row_start
returns c = record { planes = refl; entries = refl; together = refl }
