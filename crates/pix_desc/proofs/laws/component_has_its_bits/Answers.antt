use Rattle.pix_desc.proofs.Kept.{bit_at-component}
use Rattle.pix_desc.proofs.laws.component_has_its_bits.Goals as goal

pub returns : goal.returns
returns c = bit_at-component
