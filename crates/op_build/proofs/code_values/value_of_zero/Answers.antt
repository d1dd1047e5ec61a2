use Rattle.op_build.proofs.convert.LevelSizes.{constant_fits}
use Rattle.op_build.proofs.code_values.value_of_zero.Goals as goal

pub quotient-requires : goal.quotient-requires
quotient-requires c = rw c.negative_base.ensures (constant_fits c.args.levels.now c.requires)
