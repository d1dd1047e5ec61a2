use Rattle.std.proofs.Common.{◌∙◌, sym, ap}
use Rattle.op_list.specs.Run.{read_length}
use Rattle.op_build.proofs.recipe.Frames.{fills_frames, reads_frames}
use Rattle.row_plan.proofs.kernel_tests.store_pixel.Goals as goal

pub run_pixel-requires-clause-frame : goal.run_pixel-requires-clause-frame
run_pixel-requires-clause-frame c =
    let pair = c.args.pair.now in
    let position = c.args.position.now in
    c.requires.input ∙ sym
    (ap (λ ops. read_length ops position.width position.rows) c.requires.list
    ∙ reads_frames pair c.requires.pair.valid position.width position.rows)

pub store_elements-requires : goal.store_elements-requires
store_elements-requires c =
    let pair = c.args.pair.now in
    let position = c.args.position.now in
    let fills = fills_frames pair.to.desc c.requires.pair.valid.to c.requires.plain in
    rw (c.element_type-elem.ensures, c.element_counts-planes.ensures) record {
      column = c.requires.column;
      row = c.requires.row;
      whole = fills.whole;
      few = fills.few;
      size = c.requires.output ∙ fills.size position.width position.rows;
    }
