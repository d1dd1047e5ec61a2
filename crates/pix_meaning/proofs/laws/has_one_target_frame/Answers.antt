use Rattle.pix_meaning.proofs.TargetLaws.{has_one_target_frame}
use Rattle.pix_meaning.proofs.laws.has_one_target_frame.Goals as goal

pub returns : goal.returns
returns c = has_one_target_frame
