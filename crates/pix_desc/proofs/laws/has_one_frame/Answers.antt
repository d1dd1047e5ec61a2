use Rattle.pix_desc.proofs.FrameLaws.{one_frame}
use Rattle.pix_desc.proofs.laws.has_one_frame.Goals as goal

pub returns : goal.returns
returns c = one_frame
