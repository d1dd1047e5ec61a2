use Rattle.pix_meaning.proofs.TargetLaws.{keeps_codes}
use Rattle.pix_meaning.proofs.laws.keeps_codes.Goals as goal

pub returns : goal.returns
returns c = keeps_codes
