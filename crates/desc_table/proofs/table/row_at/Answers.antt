use Rattle.desc_table.proofs.Rows.{format_of-get_or}
use Rattle.desc_table.proofs.table.row_at.Goals as goal

pub returns : goal.returns
returns c = format_of-get_or _ _ _ c.rows.ensures.value c.requires
