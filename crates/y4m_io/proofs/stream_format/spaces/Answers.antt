use Rattle.std.proofs.Common.{refl}
use Rattle.y4m_io.specs.StreamFormats.{colour_spaces}
use Rattle.y4m_io.proofs.stream_format.spaces.Goals as goal

pub returns : goal.returns
unfolding colour_spaces
returns c = refl
