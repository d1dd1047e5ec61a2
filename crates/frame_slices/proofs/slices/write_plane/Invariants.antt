-- The plane of the slices so far was written.
use Rattle.std.proofs.Common.{take}
use Rattle.pix_io.specs.Faults.{HasNoFault}
use Rattle.pix_io.specs.Streams.{Writes}
use Rattle.frame_slices.specs.FrameSlices.{target_plane_in}
use Rattle.frame_slices.proofs.slices.write_plane.Given as goal

abbrev pub invariant-loop-k : goal.invariant-loop-k
invariant-loop-k g l = record {
  written : Writes (g.Out.Sink.shown l.fn.output) (g.Out.Sink.shown l.output) (target_plane_in l.plane (take l.k l.slices));
  quiet : HasNoFault (g.Out.Sink.shown l.fn.output) (g.Out.Sink.shown l.output);
}
