use Rattle.op_list.proofs.Stored.{elements_make_frame}
use Rattle.op_list.proofs.laws.elements_make_frame.Goals as goal

pub returns : goal.returns
returns c = elements_make_frame
