use Rattle.std.proofs.Common.{◌≡◌, ℕ, ◌+◌, ◌-◌, ◌*◌, ◌<◌, ◌≤◌, inl, refl, ⊎_elim, ◌∙◌, arith, subst, []}
use Rattle.std.specs.Prelude.{sum}
use Rattle.std.proofs.lemmas.Bool.{cases_lt}
use Rattle.op_list.specs.declared.types.Stage.TheVariants.{Start}
use Rattle.op_list.specs.Values.{number, no_values}
use Rattle.op_list.specs.Run.{run_from}
use Rattle.kernel_planes.specs.Block.{position_at}
use Rattle.kernel_step.specs.Forms.{last_op}
use Rattle.kernel_planes.specs.Planes.{planes_of, elem_of}
use Rattle.kernel_planes.specs.Planes.{row_element, row_frame, row_length, row_list, rows_of}
use Rattle.kernel_step.proofs.Kernels.{at_least_two, last_counts, run_value, written_few}
use Rattle.kernel_planes.proofs.RowFrames.{all_sizes, row_of_frame, same_sizes}
use Rattle.kernel_int.proofs.row.run_blocks.Goals as goal

pub find_chain-chain-requires-clause-some : goal.find_chain-chain-requires-clause-some
find_chain-chain-requires-clause-some g c = at_least_two c.args.ops.now c.requires.kernel.whole c.requires.kernel.typed

pub loop-block-preserved : goal.loop-block-preserved
loop-block-preserved g c =
    let ops = c.args.ops.now in
    let start = c.loop-block.block * 64 in
    let frame = row_frame (rows_of c.args.input.now) c.args.input.now.palette.now in
    let rows = row_list c.run_block.new.first c.run_block.new.second c.run_block.new.third c.run_block.new.fourth in
    let P : ℕ → ℕ → Type 0 = λ x v. row_element (elem_of (last_op ops)) (planes_of (last_op ops)) rows x v
    ≡ number (run_from frame (position_at c.args.width 1 0 c.args.y x) Start ops no_values) v in
    record {
      stored = λ x v inside below within.
          ⊎_elim
          (λ (before : x < start).
          c.run_block.ensures.others x v (inl before) ∙ c.loop-block.invariant.stored x v inside (omega arith) within)
          (λ (here : start ≤ x).
          let same : start + (x - start) ≡ x = omega arith in
          subst (λ t. P t v) same (c.run_block.ensures.stored v (x - start) within (omega arith)))
          (cases_lt x start);
    }

pub returns : goal.returns
returns g c =
    let ops = c.args.ops.now in
    let elem = elem_of (last_op ops) in
    let planes = planes_of (last_op ops) in
    let first = c.loop-block.first in
    let second = c.loop-block.second in
    let third = c.loop-block.third in
    let fourth = c.loop-block.fourth in
    let few : sum planes ≤ 4 = written_few ops c.requires.kernel.typed c.requires.kernel.whole in
    let sizes = same_sizes c.args.first.now c.args.second.now c.args.third.now c.args.fourth.now first second third fourth
    (row_length (last_op ops) c.args.width)
    c.loop-block.auto.first c.loop-block.auto.second c.loop-block.auto.third c.loop-block.auto.fourth c.requires.output in
    record {
      stored = λ x v inside within.
          row_of_frame elem planes (row_list first second third fourth) [] (position_at c.args.width 1 0 c.args.y x) v
          (all_sizes elem planes c.args.width first second third fourth
          (last_counts ops c.requires.kernel.typed c.requires.kernel.whole) sizes)
          refl refl inside
          ∙ c.loop-block.invariant.stored x v inside (omega arith) within
          ∙ run_value ops (row_frame (rows_of c.args.input.now) c.args.input.now.palette.now) c.args.width 1 x 0 c.args.y v
          (omega (arith, few, within));
    }
