use Rattle.desc_table.proofs.Rows.{checked-desc_of}
use Rattle.desc_table.proofs.laws.layouts.Goals as goal

pub returns : goal.returns
returns c = checked-desc_of
