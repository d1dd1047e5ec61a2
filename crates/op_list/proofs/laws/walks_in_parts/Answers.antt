use Rattle.op_list.proofs.Walks.{walks_in_parts}
use Rattle.op_list.proofs.laws.walks_in_parts.Goals as goal

pub returns : goal.returns
returns c = walks_in_parts
