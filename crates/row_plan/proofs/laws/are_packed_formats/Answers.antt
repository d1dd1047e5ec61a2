use Rattle.std.proofs.Common.{refl}
use Rattle.desc_table.specs.Format.{formats}
use Rattle.row_plan.proofs.laws.are_packed_formats.Goals as goal

pub returns : goal.returns
unfolding formats
returns c = refl
