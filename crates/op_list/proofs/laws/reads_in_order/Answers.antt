use Rattle.op_list.proofs.Elements.{elements_in_order}
use Rattle.op_list.proofs.laws.reads_in_order.Goals as goal

pub returns : goal.returns
returns c = elements_in_order
