use Rattle.std.proofs.Common.{refl}
use Rattle.desc_table.specs.Refused.{refused}
use Rattle.desc_table.proofs.refused.refused_names.Goals as goal

pub returns : goal.returns
unfolding refused
returns c = refl
