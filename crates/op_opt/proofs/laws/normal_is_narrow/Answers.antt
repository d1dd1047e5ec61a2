use Rattle.op_opt.proofs.PeakLaws.{normal_narrow}
use Rattle.op_opt.proofs.laws.normal_is_narrow.Goals as goal

pub returns : goal.returns
returns c = normal_narrow
