use Rattle.pix_meaning.proofs.TargetLaws.{result_below}
use Rattle.pix_meaning.proofs.laws.results_fit.Goals as goal

pub returns : goal.returns
returns c = result_below
