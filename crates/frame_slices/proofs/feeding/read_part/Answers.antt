use Rattle.std.proofs.Common.{◌^◌, ◌≤◌, length, sym, subst}
use Rattle.frame_slices.specs.Handing.{part_of}
use Rattle.frame_slices.specs.FrameSlices.{Reads}
use Rattle.frame_slices.proofs.feeding.read_part.Goals as goal

pub returns-in-Some-clause-read : goal.returns-in-Some-clause-read
returns-in-Some-clause-read g c =
    subst (λ p. Reads (g.In.Source.shown c.args.input.now) (g.In.Source.shown c.read_plane.new.input) c.read_plane.result
    (part_of p c.read_plane.new.self)) (sym c.in-Some.is) c.read_plane.ensures.read

pub returns-in-Some-clause-small : goal.returns-in-Some-clause-small
returns-in-Some-clause-small g c =
    subst (λ p. length (part_of p c.read_plane.new.self) ≤ 2 ^ 34) (sym c.in-Some.is) c.read_plane.ensures.small
