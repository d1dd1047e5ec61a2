use Rattle.pix_meaning.proofs.Passing.{passes_luma_and_chroma}
use Rattle.pix_meaning.proofs.laws.passes_luma_and_chroma.Goals as goal

pub returns : goal.returns
returns c = passes_luma_and_chroma
