-- What was read so far stands at the front of the buffer.
use Rattle.std.proofs.Common.{◌≤◌, ◌-◌, length, take}
use Rattle.pix_io.specs.Faults.{HasNoFault}
use Rattle.pix_io.specs.Streams.{Takes}
use Rattle.pix_io.proofs.transfer.read_whole.Given as goal

abbrev pub invariant-loop-filled : goal.invariant-loop-filled
invariant-loop-filled g l = record {
  within : l.filled ≤ length l.buf;
  taken : Takes (g.In.Source.shown l.fn.input) (g.In.Source.shown l.input) (take l.filled l.buf);
  quiet : HasNoFault (g.In.Source.shown l.fn.input) (g.In.Source.shown l.input);
}

abbrev pub decreases-loop-filled : goal.decreases-loop-filled
decreases-loop-filled g l = length l.buf - l.filled
