use Rattle.frac_math.proofs.DitherLaws.{dither_floor}
use Rattle.frac_math.proofs.laws.dither_keeps_whole.Goals as goal

pub returns : goal.returns
returns c = dither_floor
