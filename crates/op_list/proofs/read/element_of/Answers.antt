use Rattle.op_list.proofs.Stored.{index_ends}
use Rattle.op_list.proofs.read.element_of.Goals as goal

pub element-requires : goal.element-requires
element-requires c =
    rw c.in-Some.ensures.index.1
    (index_ends c.args.elem c.args.planes.now c.args.frame.now c.args.position.now c.args.i c.requires c.in-Some.ensures.index.0)
