use Rattle.std.proofs.Common.{arith}
use Rattle.row_plan.proofs.Evaluated.{table_pairs_have_plans}
use Rattle.row_plan.proofs.tests.pair_with.Goals as goal

pub returns-else-dither-gt4 : goal.returns-else-dither-gt4
returns-else-dither-gt4 c = table_pairs_have_plans _ c.requires.from c.requires.to (omega (arith, c.if-dither-gt4.false))
