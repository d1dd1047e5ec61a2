use Rattle.op_opt.specs.Weight.{weight}
use Rattle.op_opt.proofs.normal_list.+settled.Given as goal

abbrev pub decreases-settled : goal.decreases-settled
decreases-settled l = weight l.list
