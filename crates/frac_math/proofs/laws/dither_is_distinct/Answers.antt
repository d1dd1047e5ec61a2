use Rattle.frac_math.proofs.DitherLaws.{dither_distinct}
use Rattle.frac_math.proofs.laws.dither_is_distinct.Goals as goal

pub returns : goal.returns
returns c = dither_distinct
