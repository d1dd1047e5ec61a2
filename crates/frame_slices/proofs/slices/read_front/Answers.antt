use Rattle.std.proofs.Common.{◌≡◌, false, subst}
use Rattle.std.specs.Prelude.{IfSome}
use Rattle.frame_slices.specs.FrameSlices.{HaveOnePalette}
use Rattle.frame_slices.proofs.SlicePlanes.{same_places}
use Rattle.frame_slices.proofs.Fronts.{no_palettes, if_whole}
use Rattle.frame_slices.proofs.slices.read_front.Goals as goal

pub returns-in-Some-clause-behind : goal.returns-in-Some-clause-behind
returns-in-Some-clause-behind g c =
    let whole = c.args.whole.now in
    let xs = c.read_planes.new.slices in
    let none : whole.source.palette ≡ false = subst (λ part. IfSome part (λ _. whole.source.palette ≡ false)) c.in-Some.is c.requires.bare in
    if_whole c.read_planes.result (HaveOnePalette xs)
    (no_palettes whole.source whole.target whole.width xs
    (same_places whole.source whole.target whole.width 0 xs c.args.slices.now c.read_planes.ensures.places c.requires.places) none)
