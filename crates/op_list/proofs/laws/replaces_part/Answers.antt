use Rattle.op_list.proofs.Walks.{replaces_part}
use Rattle.op_list.proofs.laws.replaces_part.Goals as goal

pub returns : goal.returns
returns c = replaces_part
