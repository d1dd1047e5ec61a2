use Rattle.op_opt.proofs.Normals.{pass_improves}
use Rattle.op_opt.proofs.laws.each_pass_improves.Goals as goal

pub returns : goal.returns
returns c = pass_improves
