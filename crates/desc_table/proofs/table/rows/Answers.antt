use Rattle.std.proofs.Common.{refl}
use Rattle.desc_table.specs.Format.{formats}
use Rattle.desc_table.proofs.table.rows.Goals as goal

pub returns-clause-differing : goal.returns-clause-differing
unfolding formats
returns-clause-differing c = refl

pub returns-clause-count : goal.returns-clause-count
unfolding formats
returns-clause-count c = refl

pub returns-clause-value : goal.returns-clause-value
unfolding formats
returns-clause-value c = refl
