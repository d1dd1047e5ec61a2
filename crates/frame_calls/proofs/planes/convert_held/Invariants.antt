use Rattle.kernel_planes.specs.Planes.{row_list}
use Rattle.frame_calls.specs.Planes.{AreRowsConverted}
use Rattle.frame_calls.proofs.planes.convert_held.Given as goal

abbrev pub invariant-loop-row : goal.invariant-loop-row
invariant-loop-row l =
    AreRowsConverted l.fn.plan.pair l.fn.rows l.fn.source l.fn.source_strides l.fn.strides
    (row_list l.fn.first l.fn.second l.fn.third l.fn.fourth) (row_list l.first l.second l.third l.fourth) l.row
