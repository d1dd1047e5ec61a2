use Rattle.pix_meaning.proofs.PixelLaws as laws
use Rattle.pix_meaning.proofs.laws.slices_agree.Goals as goal

pub returns : goal.returns
returns c = laws.slices_agree
