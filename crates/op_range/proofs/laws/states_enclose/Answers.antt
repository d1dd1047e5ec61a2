use Rattle.op_range.proofs.States.{states_enclose}
use Rattle.op_range.proofs.laws.states_enclose.Goals as goal

pub returns : goal.returns
returns c = states_enclose
