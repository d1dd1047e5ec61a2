use Rattle.pix_desc.proofs.Kept.{component-kept}
use Rattle.pix_desc.proofs.laws.other_components_stay.Goals as goal

pub returns : goal.returns
returns c = component-kept
