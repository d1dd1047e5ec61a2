use Rattle.std.proofs.Common.{◌≡◌, ◌++◌, ◌∙◌, ap, arith, slice_index}
use Rattle.op_list.specs.Pixel.{element_of}
use Rattle.kernel_step.specs.Forms.{last_op}
use Rattle.kernel_planes.specs.Planes.{planes_of, elem_of}
use Rattle.kernel_planes.specs.Planes.{row_length}
use Rattle.kernel_int.proofs.CutRows.{four_sizes}
use Rattle.kernel_int.proofs.PutRows.{HasPlanes, part_size, put_others, put_row, split_whole}
use Rattle.kernel_int.proofs.kernel.RowKernel.run_into.Goals as goal

pub run_planes-requires-clause-output : goal.run_planes-requires-clause-output
run_planes-requires-clause-output c =
    let op = last_op c.args.self.now in
    let first = c.split_at_mut-first.result.0.now in
    let second = c.split_at_mut-second.result.0.now in
    let third = c.split_at_mut-third.result.0.now in
    let fourth = c.split_at_mut-third.result.1.now in
    let has : HasPlanes op c.args.width c.args.rows c.args.sizes.now first second third fourth =
    record {
      good = c.requires.counts;
      are = c.requires.sizes;
      first = c.split_at_mut-first.ensures.front_len;
      second = c.split_at_mut-second.ensures.front_len;
      third = c.split_at_mut-third.ensures.front_len;
      fourth = omega (arith, c.requires.output);
    } in
    let size = slice_index c.args.sizes.now in
    four_sizes _ _ _ _ (row_length op c.args.width)
    (part_size c.args.rows c.args.row (size 0) first c.requires.row has.first ∙ c.requires.sizes 0 (omega arith))
    (part_size c.args.rows c.args.row (size 1) second c.requires.row has.second ∙ c.requires.sizes 1 (omega arith))
    (part_size c.args.rows c.args.row (size 2) third c.requires.row has.third ∙ c.requires.sizes 2 (omega arith))
    (part_size c.args.rows c.args.row (size 3) fourth c.requires.row has.fourth ∙ c.requires.sizes 3 (omega arith))

pub returns-clause-row : goal.returns-clause-row
returns-clause-row c =
    λ x v column within.
    let op = last_op c.args.self.now in
    let first = c.split_at_mut-first.result.0.now in
    let second = c.split_at_mut-second.result.0.now in
    let third = c.split_at_mut-third.result.0.now in
    let fourth = c.split_at_mut-third.result.1.now in
    let has : HasPlanes op c.args.width c.args.rows c.args.sizes.now first second third fourth =
    record {
      good = c.requires.counts;
      are = c.requires.sizes;
      first = c.split_at_mut-first.ensures.front_len;
      second = c.split_at_mut-second.ensures.front_len;
      third = c.split_at_mut-third.ensures.front_len;
      fourth = omega (arith, c.requires.output);
    } in
    let size = slice_index c.args.sizes.now in
    let new = four_sizes c.run_planes.new.first c.run_planes.new.second c.run_planes.new.third c.run_planes.new.fourth
    (row_length op c.args.width)
    (c.run_planes.auto.first ∙ part_size c.args.rows c.args.row (size 0) first c.requires.row has.first ∙ c.requires.sizes 0 (omega arith))
    (c.run_planes.auto.second ∙ part_size c.args.rows c.args.row (size 1) second c.requires.row has.second
    ∙ c.requires.sizes 1 (omega arith))
    (c.run_planes.auto.third ∙ part_size c.args.rows c.args.row (size 2) third c.requires.row has.third ∙ c.requires.sizes 2 (omega arith))
    (c.run_planes.auto.fourth ∙ part_size c.args.rows c.args.row (size 3) fourth c.requires.row has.fourth
    ∙ c.requires.sizes 3 (omega arith)) in
    put_row op c.args.width c.args.rows c.args.row x c.args.y v c.args.sizes.now first second third fourth c.run_planes.new.first
    c.run_planes.new.second c.run_planes.new.third c.run_planes.new.fourth has new c.requires.row column
    ∙ c.run_planes.ensures.pixels x v column within

pub returns-clause-others : goal.returns-clause-others
returns-clause-others c =
    λ other is v.
    let op = last_op c.args.self.now in
    let first = c.split_at_mut-first.result.0.now in
    let second = c.split_at_mut-second.result.0.now in
    let third = c.split_at_mut-third.result.0.now in
    let fourth = c.split_at_mut-third.result.1.now in
    let has : HasPlanes op c.args.width c.args.rows c.args.sizes.now first second third fourth =
    record {
      good = c.requires.counts;
      are = c.requires.sizes;
      first = c.split_at_mut-first.ensures.front_len;
      second = c.split_at_mut-second.ensures.front_len;
      third = c.split_at_mut-third.ensures.front_len;
      fourth = omega (arith, c.requires.output);
    } in
    let size = slice_index c.args.sizes.now in
    let new = four_sizes c.run_planes.new.first c.run_planes.new.second c.run_planes.new.third c.run_planes.new.fourth
    (row_length op c.args.width)
    (c.run_planes.auto.first ∙ part_size c.args.rows c.args.row (size 0) first c.requires.row has.first ∙ c.requires.sizes 0 (omega arith))
    (c.run_planes.auto.second ∙ part_size c.args.rows c.args.row (size 1) second c.requires.row has.second
    ∙ c.requires.sizes 1 (omega arith))
    (c.run_planes.auto.third ∙ part_size c.args.rows c.args.row (size 2) third c.requires.row has.third ∙ c.requires.sizes 2 (omega arith))
    (c.run_planes.auto.fourth ∙ part_size c.args.rows c.args.row (size 3) fourth c.requires.row has.fourth
    ∙ c.requires.sizes 3 (omega arith)) in
    let whole : first ++ (second ++ (third ++ fourth)) ≡ c.args.output.now =
    ap (λ t. first ++ (second ++ t)) (split_whole c.split_at_mut-second.result.1.now third fourth _ c.split_at_mut-third.ensures.front
    c.split_at_mut-third.ensures.back)
    ∙ ap (λ t. first ++ t) (split_whole c.split_at_mut-first.result.1.now second c.split_at_mut-second.result.1.now _
    c.split_at_mut-second.ensures.front c.split_at_mut-second.ensures.back)
    ∙ split_whole c.args.output.now first c.split_at_mut-first.result.1.now _ c.split_at_mut-first.ensures.front
    c.split_at_mut-first.ensures.back in
    put_others op c.args.width c.args.rows c.args.row v other c.args.sizes.now first second third fourth c.run_planes.new.first
    c.run_planes.new.second c.run_planes.new.third c.run_planes.new.fourth has new c.requires.row is
    ∙ ap (λ f. element_of (elem_of op) (planes_of op) f other v) whole
