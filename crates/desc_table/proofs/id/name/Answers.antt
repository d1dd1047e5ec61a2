use Rattle.std.proofs.Common.{ap}
use Rattle.desc_table.specs.Format.{Format}
use Rattle.desc_table.specs.Refused.{lookup}
use Rattle.desc_table.proofs.Rows.{lookup-name_of}
use Rattle.desc_table.proofs.id.name.Goals as goal

pub returns-clause-lookup : goal.returns-clause-lookup
returns-clause-lookup c =
    cc (ap (λ (format : Format). lookup format.name) c.row_at.ensures, lookup-name_of c.index.result c.index.ensures.below)
