use Rattle.row_plan.proofs.Evaluated.{table_pairs_have_plans}
use Rattle.list_cache.proofs.tests.paired.Goals as goal

pub returns : goal.returns
returns c = table_pairs_have_plans _ c.requires.from c.requires.to c.requires.dither
