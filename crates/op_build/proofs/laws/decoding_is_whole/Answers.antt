use Rattle.op_build.proofs.decode.Typed.{whole_typed}
use Rattle.op_build.proofs.laws.decoding_is_whole.Goals as goal

pub returns : goal.returns
returns c = whole_typed
