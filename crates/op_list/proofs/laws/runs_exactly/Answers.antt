use Rattle.op_list.proofs.Exact.{checked_run-exact}
use Rattle.op_list.proofs.laws.runs_exactly.Goals as goal

pub returns : goal.returns
returns c = checked_run-exact
