use Rattle.pix_desc.proofs.FrameOnly.{agreeing_frames}
use Rattle.pix_desc.proofs.laws.agreeing_values_frame.Goals as goal

pub returns : goal.returns
returns c = agreeing_frames
