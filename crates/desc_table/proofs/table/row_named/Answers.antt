use Rattle.std.proofs.Common.{◌∙◌}
use Rattle.desc_table.proofs.Lookup.{row_named-rows}
use Rattle.desc_table.proofs.table.row_named.Goals as goal

pub returns-clause-value : goal.returns-clause-value
returns-clause-value c = c.position_in.ensures ∙ row_named-rows c.rows.result.now c.args.name.now c.rows.ensures.value
