-- The front of the piece is written.
use Rattle.std.proofs.Common.{◌≤◌, ◌-◌, length, take}
use Rattle.pix_io.specs.Faults.{HasNoFault}
use Rattle.pix_io.specs.Streams.{Writes}
use Rattle.pix_io.proofs.transfer.write_all.Given as goal

abbrev pub invariant-loop-done : goal.invariant-loop-done
invariant-loop-done g l = record {
  within : l.done ≤ length l.piece;
  written : Writes (g.Out.Sink.shown l.fn.output) (g.Out.Sink.shown l.output) (take l.done l.piece);
  quiet : HasNoFault (g.Out.Sink.shown l.fn.output) (g.Out.Sink.shown l.output);
}

abbrev pub decreases-loop-done : goal.decreases-loop-done
decreases-loop-done g l = length l.piece - l.done
