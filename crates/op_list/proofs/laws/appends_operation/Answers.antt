use Rattle.op_list.proofs.Walks.{appends_operation}
use Rattle.op_list.proofs.laws.appends_operation.Goals as goal

pub returns : goal.returns
returns c = appends_operation
