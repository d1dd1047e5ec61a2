-- The planes so far were read.
use Rattle.std.proofs.Common.{◌≡◌, map}
use Rattle.pix_io.specs.Faults.{HasNoFault}
use Rattle.pix_io.specs.Streams.{Takes}
use Rattle.frame_slices.specs.FrameSlices.{place_of, behind_of, planes_in}
use Rattle.frame_slices.proofs.slices.read_planes.Given as goal

abbrev pub invariant-loop-plane : goal.invariant-loop-plane
invariant-loop-plane g l = record {
  taken : Takes (g.In.Source.shown l.fn.input) (g.In.Source.shown l.input) (planes_in l.plane l.slices);
  quiet : HasNoFault (g.In.Source.shown l.fn.input) (g.In.Source.shown l.input);
  behind : map behind_of l.slices ≡ map behind_of l.fn.slices;
  places : map place_of l.slices ≡ map place_of l.fn.slices;
}
