use Rattle.row_plan.proofs.Evaluated.{table_pairs_fit}
use Rattle.row_plan.proofs.laws.every_pair_fits.Goals as goal

pub returns : goal.returns
returns c = table_pairs_fit
