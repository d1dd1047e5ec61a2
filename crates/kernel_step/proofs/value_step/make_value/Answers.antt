use Rattle.kernel_step.proofs.ValueBlocks.{dither_small}
use Rattle.kernel_step.proofs.value_step.make_value.Goals as goal

pub dither_value-requires-clause-good : goal.dither_value-requires-clause-good
dither_value-requires-clause-good g c = dither_small c.args._stage c.in-Dither.k (rw c.in-Dither.is at c.requires.good)
