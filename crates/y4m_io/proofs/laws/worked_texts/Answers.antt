use Rattle.y4m_io.proofs.Examples as examples
use Rattle.y4m_io.proofs.laws.worked_texts.Goals as goal

pub returns : goal.returns
returns c = examples.worked_texts
