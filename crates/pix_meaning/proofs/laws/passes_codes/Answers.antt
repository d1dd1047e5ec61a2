use Rattle.pix_meaning.proofs.Passing.{passes_codes}
use Rattle.pix_meaning.proofs.laws.passes_codes.Goals as goal

pub returns : goal.returns
returns c = passes_codes
