use Rattle.pix_desc.proofs.Valid.{laid_out}
use Rattle.pix_desc.proofs.laws.passes_laid_out.Goals as goal

pub returns : goal.returns
returns c = laid_out
