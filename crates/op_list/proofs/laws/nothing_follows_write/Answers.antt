use Rattle.op_list.proofs.Wholes.{before_other}
use Rattle.op_list.proofs.laws.nothing_follows_write.Goals as goal

pub returns : goal.returns
returns c = before_other
