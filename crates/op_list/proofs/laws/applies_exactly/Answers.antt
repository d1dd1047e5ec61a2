use Rattle.op_list.proofs.Exact.{checked_apply-exact}
use Rattle.op_list.proofs.laws.applies_exactly.Goals as goal

pub returns : goal.returns
returns c = checked_apply-exact
