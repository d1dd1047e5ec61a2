use Rattle.std.proofs.Common.{◌≡◌, ℕ, ◌*◌, ◌<◌}
use Rattle.std.specs.Prelude.{sum}
use Rattle.op_list.specs.declared.types.Stage.TheVariants.{Start}
use Rattle.op_list.specs.Values.{number, no_values}
use Rattle.op_list.specs.Run.{run_from}
use Rattle.kernel_planes.specs.Block.{position_at}
use Rattle.kernel_step.specs.Forms.{last_op}
use Rattle.kernel_planes.specs.Planes.{planes_of, elem_of}
use Rattle.kernel_planes.specs.Planes.{row_element, row_frame, row_list, rows_of}
use Rattle.kernel_int.proofs.row.run_blocks.Given as goal

abbrev pub invariant-loop-block : goal.invariant-loop-block
invariant-loop-block g l = record {
  stored : (x v : ℕ) → x < l.width → x < 64 * l.block → v < sum (planes_of (last_op l.ops))
      → row_element (elem_of (last_op l.ops)) (planes_of (last_op l.ops)) (row_list l.first l.second l.third l.fourth) x v
      ≡ number (run_from (row_frame (rows_of l.input) l.input.palette.now) (position_at l.width 1 0 l.y x) Start l.ops no_values) v;
}
