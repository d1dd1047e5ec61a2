use Rattle.std.proofs.Common.{sym, subst}
use Rattle.frame_slices.specs.FrameSlices.{Reads}
use Rattle.frame_slices.proofs.SlicePlanes.{same_places}
use Rattle.frame_slices.proofs.SliceFrame.{source_is}
use Rattle.frame_slices.proofs.slices.read_frame.Goals as goal

pub returns-clause-read : goal.returns-clause-read
returns-clause-read g c =
    let whole = c.args.whole.now in
    let xs = c.read_bytes.new.slices in
    let places = same_places whole.source whole.target whole.width 0 xs c.args.slices.now c.read_bytes.ensures.places c.requires.places in
    subst (Reads (g.In.Source.shown c.args.input.now) (g.In.Source.shown c.read_bytes.new.input) c.read_bytes.result)
    (sym (source_is whole xs places)) c.read_bytes.ensures.read
