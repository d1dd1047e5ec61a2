use Rattle.frac_math.proofs.DitherLaws.{dither_above, dither_below}
use Rattle.frac_math.proofs.laws.dither_is_inside.Goals as goal

pub returns : goal.returns
returns c = λ k x y. (dither_above k x y, dither_below k x y)
