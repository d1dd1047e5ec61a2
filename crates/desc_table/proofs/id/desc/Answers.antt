use Rattle.std.proofs.Common.{sym, subst}
use Rattle.pix_desc.specs.Layouts.{IsValid}
use Rattle.desc_table.specs.Format.{Format}
use Rattle.desc_table.proofs.Rows.{valid_at}
use Rattle.desc_table.proofs.id.desc.Goals as goal

pub returns-clause-valid : goal.returns-clause-valid
returns-clause-valid c =
    subst (λ (format : Format). IsValid format.desc) (sym c.row_at-row.ensures) (valid_at c.index.result c.index.ensures.below)
