use Rattle.frac_math.proofs.DitherLaws as laws
use Rattle.frac_math.proofs.laws.dither_repeats.Goals as goal

pub returns : goal.returns
returns c = laws.dither_repeats
