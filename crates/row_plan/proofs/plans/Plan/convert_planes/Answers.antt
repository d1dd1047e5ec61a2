use Rattle.std.proofs.Common.{◌∙◌, ◌<◌, ℕ, [], sym}
use Rattle.std.proofs.lemmas.Bool.{cond-false}
use Rattle.std.proofs.lemmas.List.Elements.{All-nil}
use Rattle.pix_desc.specs.Frame.{row_length}
use Rattle.kernel_planes.specs.Planes.{row_frame, row_list, rows_of}
use Rattle.kernel_planes.proofs.RowFrames.{same_sizes}
use Rattle.row_plan.specs.Planes.{AreRowsOf}
use Rattle.row_plan.proofs.ConvertedRows.{are_bytes}
use Rattle.row_plan.proofs.PlaneRows.{source_rows, source_palette, target_fits, row_frame_size, row_frame_bytes, row_is_target}
use Rattle.row_plan.proofs.plans.Plan.convert_planes.Goals as goal

pub run_planes-requires-clause-input : goal.run_planes-requires-clause-input
run_planes-requires-clause-input c =
    let plan = c.args.self.now in
    source_rows plan.pair plan.kernel c.args.width (rows_of c.args.input.now) plan.valid plan.runs c.requires.input

pub run_planes-requires-clause-palette : goal.run_planes-requires-clause-palette
run_planes-requires-clause-palette c =
    let plan = c.args.self.now in
    c.requires.palette ∙ sym (source_palette plan.pair plan.kernel plan.valid plan.runs)

pub run_planes-requires-clause-output : goal.run_planes-requires-clause-output
run_planes-requires-clause-output c =
    let plan = c.args.self.now in
    target_fits plan.pair plan.kernel c.args.width
    (row_list c.args.first.now c.args.second.now c.args.third.now c.args.fourth.now) plan.valid plan.runs c.requires.output

pub returns-clause-target : goal.returns-clause-target
returns-clause-target c =
    let plan = c.args.self.now in
    let input = c.args.input.now in
    let sizes : AreRowsOf plan.pair.to.desc c.args.width
    (row_list c.run_planes.new.first c.run_planes.new.second c.run_planes.new.third c.run_planes.new.fourth) = same_sizes
    c.args.first.now c.args.second.now c.args.third.now c.args.fourth.now c.run_planes.new.first c.run_planes.new.second
    c.run_planes.new.third c.run_planes.new.fourth (row_length plan.pair.to.desc c.args.width) c.run_planes.auto.first
    c.run_planes.auto.second c.run_planes.auto.third c.run_planes.auto.fourth c.requires.output in
    row_is_target plan.pair plan.kernel c.args.width c.args.y (row_frame (rows_of input) input.palette.now)
    (row_frame
    (row_list c.run_planes.new.first c.run_planes.new.second c.run_planes.new.third c.run_planes.new.fourth) []) plan.valid
    plan.plain plan.runs
    (row_frame_bytes input.first.now input.second.now input.third.now input.fourth.now input.palette.now c.are_bytes.ensures
    c.are_bytes-2.ensures c.are_bytes-3.ensures c.are_bytes-4.ensures c.are_bytes-5.ensures)
    (row_frame_bytes c.run_planes.new.first c.run_planes.new.second c.run_planes.new.third c.run_planes.new.fourth []
    (are_bytes c.run_planes.new.first (λ k. (c.type_inv.first k).fits)) (are_bytes c.run_planes.new.second (λ k.
    (c.type_inv.second k).fits)) (are_bytes c.run_planes.new.third (λ k. (c.type_inv.third k).fits))
    (are_bytes c.run_planes.new.fourth (λ k. (c.type_inv.fourth k).fits)) (All-nil (λ byte. byte < 256)))
    (row_frame_size plan.pair.from.desc c.args.width input.first.now input.second.now input.third.now input.fourth.now
    input.palette.now c.requires.input c.requires.palette)
    (row_frame_size plan.pair.to.desc c.args.width c.run_planes.new.first c.run_planes.new.second c.run_planes.new.third
    c.run_planes.new.fourth [] sizes (sym (cond-false {A = ℕ} plan.pair.to.desc.palette 1024 0 plan.plain)))
    c.run_planes.ensures.pixels
