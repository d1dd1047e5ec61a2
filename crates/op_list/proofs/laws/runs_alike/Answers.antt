use Rattle.op_list.proofs.Walks.{runs_alike}
use Rattle.op_list.proofs.laws.runs_alike.Goals as goal

pub returns : goal.returns
returns c = runs_alike
