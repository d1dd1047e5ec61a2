use Rattle.op_range.proofs.Reaching.{IsFault, fault_known}
use Rattle.op_range.proofs.width.width_fault.Goals as goal

fault : (c : goal.After-first_true) → IsFault c.args.list.now c.first_true.result
fault c =
    fault_known c.args.list.now c.ops.result.now c.whole_width.result c.first_true.result c.reached-reached.result
    c.reached-reached.ensures c.ops.ensures.same c.whole_width.ensures
    c.first_true.ensures

pub returns-clause-none : goal.returns-clause-none
returns-clause-none c = (fault c).none

pub returns-clause-lowest : goal.returns-clause-lowest
returns-clause-lowest c = (fault c).lowest
