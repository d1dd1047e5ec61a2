use Rattle.pix_meaning.proofs.Channels.{has_channels}
use Rattle.pix_meaning.proofs.laws.has_channels.Goals as goal

pub returns : goal.returns
returns c = has_channels
