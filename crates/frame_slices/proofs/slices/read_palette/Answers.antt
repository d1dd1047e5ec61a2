use Rattle.std.proofs.Common.{◌<◌, length, sym, subst, rules}
use Rattle.frame_slices.specs.FrameSlices.{Reads}
use Rattle.frame_slices.proofs.SlicePlanes.{palette_set, one_palette}
use Rattle.frame_slices.proofs.ReadsOn.{stops_inside}
use Rattle.frame_slices.proofs.slices.read_palette.Goals as goal

pub returns-clause-read : goal.returns-clause-read
returns-clause-read g c =
    let palette = c.read_whole-read.new.buf in
    let some : 0 < length palette = search rules in
    subst (Reads (g.In.Source.shown c.args.input.now) (g.In.Source.shown c.read_whole-read.new.input) c.read_whole-read.result)
    (sym (palette_set palette c.args.slices.now c.set_palettes.new.slices c.requires.some c.set_palettes.ensures.behind))
    (record {
      taken = c.read_whole-read.ensures.taken;
      range = stops_inside c.read_whole-read.result (length palette) some c.read_whole-read.ensures.range;
      part_taken = c.read_whole-read.ensures.part_taken;
      cause = c.read_whole-read.ensures.cause;
    })

pub returns-clause-behind : goal.returns-clause-behind
returns-clause-behind g c = one_palette c.read_whole-read.new.buf c.args.slices.now c.set_palettes.new.slices c.requires.some
    c.set_palettes.ensures.behind
