use Rattle.pix_meaning.proofs.PixelLaws.{source_below}
use Rattle.pix_meaning.proofs.laws.sources_fit.Goals as goal

pub returns : goal.returns
returns c = source_below
