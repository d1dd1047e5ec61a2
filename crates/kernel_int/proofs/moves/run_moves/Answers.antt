use Rattle.std.proofs.Common.{◌≡◌, ◌<◌, ◌∙◌, [], refl, sym}
use Rattle.std.specs.Prelude.{sum}
use Rattle.op_list.specs.declared.op.Op.TheVariants.{Write}
use Rattle.kernel_planes.specs.Block.{position_at}
use Rattle.kernel_planes.specs.Planes.{planes_of, elem_of, row_length, row_list}
use Rattle.kernel_planes.proofs.RowFrames.{all_sizes, row_of_frame, same_sizes}
use Rattle.kernel_step.specs.Forms.{last_op}
use Rattle.kernel_step.proofs.Kernels.{counts_few, last_counts}
use Rattle.kernel_int.proofs.MovedRows.{last_is, move_good, moved_value}
use Rattle.kernel_int.proofs.moves.run_moves.Goals as goal

pub move_row-requires-clause-whole : goal.move_row-requires-clause-whole
move_row-requires-clause-whole c =
    (move_good c.args.ops.now c.args.moves.now c.requires.moves c.requires.typed c.requires.whole).whole

pub move_row-requires-clause-few : goal.move_row-requires-clause-few
move_row-requires-clause-few c =
    let good = move_good c.args.ops.now c.args.moves.now c.requires.moves c.requires.typed c.requires.whole in
    (counts_few 4 c.args.moves.now.planes good.counts, good.few)

pub returns : goal.returns
returns c =
    let ops = c.args.ops.now in
    let moves = c.args.moves.now in
    let input = c.args.input.now in
    let elem = elem_of (last_op ops) in
    let planes = planes_of (last_op ops) in
    let first = c.move_row.new.first in
    let second = c.move_row.new.second in
    let third = c.move_row.new.third in
    let fourth = c.move_row.new.fourth in
    let last : last_op ops ≡ Write moves.elem moves.to = last_is ops moves c.requires.moves in
    let sizes = same_sizes c.args.first.now c.args.second.now c.args.third.now c.args.fourth.now first second third fourth
    (row_length (last_op ops) c.args.width)
    c.move_row.auto.first c.move_row.auto.second c.move_row.auto.third c.move_row.auto.fourth c.requires.output in
    record {
      stored = λ x v inside within.
          let below : v < sum moves.to = rw last at within in
          row_of_frame elem planes (row_list first second third fourth) [] (position_at c.args.width 1 0 c.args.y x) v
          (all_sizes elem planes c.args.width first second third fourth (last_counts ops c.requires.typed c.requires.whole) sizes)
          refl refl inside
          ∙ rw last (c.move_row.ensures x v inside below)
          ∙ sym (moved_value ops moves input.first.now input.second.now input.third.now input.fourth.now input.palette.now c.args.width x
          c.args.y v c.requires.moves c.requires.typed c.requires.whole c.requires.input inside below);
    }
