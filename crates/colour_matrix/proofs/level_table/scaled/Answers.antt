use Rattle.std.proofs.Common.{◌∙◌}
use Rattle.colour_matrix.proofs.LevelLaws.{scaled_is}
use Rattle.colour_matrix.proofs.level_table.scaled.Goals as goal

pub returns : goal.returns
returns c = (rw (c.power.ensures, c.from.ensures) at c.ratio.ensures) ∙ scaled_is c.args.depth c.args.code
