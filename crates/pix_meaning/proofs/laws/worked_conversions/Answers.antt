use Rattle.pix_meaning.proofs.Examples as examples
use Rattle.pix_meaning.proofs.laws.worked_conversions.Goals as goal

pub returns : goal.returns
returns c = examples.worked_conversions
