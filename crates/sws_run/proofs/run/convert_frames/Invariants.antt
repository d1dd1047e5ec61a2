-- The first frames are read, converted and written.
use Rattle.std.proofs.Common.{IfSome}
use Rattle.pix_io.specs.Faults.{HasNoFault}
use Rattle.sws_run.specs.Frames.{IfTold, IsFrameFor, size_by}
use Rattle.sws_run.proofs.Runs.{IsBehindFrames, WritesTexts}
use Rattle.sws_run.proofs.run.convert_frames.Given as goal

abbrev pub invariant-loop-done : goal.invariant-loop-done
invariant-loop-done g l = record {
  place : IfTold (g.In.Source.shown l.fn.input).bytes (g.In.Source.shown l.input).bytes
      (IsBehindFrames l.converter (size_by l.converter) l.done);
  written : IfSome (g.In.Source.shown l.fn.input).bytes (WritesTexts l.converter (size_by l.converter) (g.Out.Sink.shown l.fn.output)
      (g.Out.Sink.shown l.output) l.done);
  reads : HasNoFault (g.In.Source.shown l.fn.input) (g.In.Source.shown l.input);
  writes : HasNoFault (g.Out.Sink.shown l.fn.output) (g.Out.Sink.shown l.output);
  fits : IsFrameFor l.converter l.frame.whole;
}
