use Rattle.row_plan.proofs.Evaluated.{table_pairs_have_plans}
use Rattle.row_plan.proofs.laws.table_pairs_have_plans.Goals as goal

pub returns : goal.returns
returns c = table_pairs_have_plans
