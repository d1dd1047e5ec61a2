use Rattle.pix_desc.proofs.FrameLaws.{same_frames}
use Rattle.pix_desc.proofs.laws.same_values_frame.Goals as goal

pub returns : goal.returns
returns c = same_frames
