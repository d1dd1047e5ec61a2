use Rattle.op_build.proofs.convert.LevelSizes.{inverse_fits}
use Rattle.op_build.proofs.code_values.value_step.Goals as goal

pub quotient-requires : goal.quotient-requires
quotient-requires c = rw c.whole.ensures (inverse_fits c.args.levels.now c.requires)
