-- The planes so far were written.
use Rattle.pix_io.specs.Faults.{HasNoFault}
use Rattle.pix_io.specs.Streams.{Writes}
use Rattle.frame_slices.specs.FrameSlices.{target_planes_in}
use Rattle.frame_slices.proofs.slices.write_planes.Given as goal

abbrev pub invariant-loop-plane : goal.invariant-loop-plane
invariant-loop-plane g l = record {
  written : Writes (g.Out.Sink.shown l.fn.output) (g.Out.Sink.shown l.output) (target_planes_in l.plane l.slices);
  quiet : HasNoFault (g.Out.Sink.shown l.fn.output) (g.Out.Sink.shown l.output);
}
