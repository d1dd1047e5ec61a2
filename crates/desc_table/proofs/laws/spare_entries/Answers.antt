use Rattle.pix_desc.specs.Component.{components}
use Rattle.desc_table.specs.Format.{four_entries}
use Rattle.desc_table.proofs.Rows.{agree_at_row, spare_computed}
use Rattle.desc_table.proofs.laws.spare_entries.Goals as goal

pub returns : goal.returns
returns c = agree_at_row (λ format. format.desc.comps) (λ format. four_entries (components format.desc)) spare_computed
