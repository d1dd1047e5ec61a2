-- What was read so far stands at the front of the buffer, has no newline, and begins as a line of the kind does.
use Rattle.std.proofs.Common.{◌≡◌, ◌≤◌, ◌-◌, length, take, true, false}
use Rattle.std.specs.List.{list_any}
use Rattle.pix_io.specs.Faults.{HasNoFault}
use Rattle.pix_io.specs.Streams.{Takes}
use Rattle.y4m_io.specs.Lines.{is_newline}
use Rattle.y4m_io.specs.LineKinds.{is_front}
use Rattle.y4m_io.proofs.line.read_line.Given as goal

abbrev pub invariant-loop-size : goal.invariant-loop-size
invariant-loop-size g l = record {
  within : l.size ≤ length l.line;
  taken : Takes (g.In.Source.shown l.fn.input) (g.In.Source.shown l.input) (take l.size l.line);
  closed : list_any is_newline (take l.size l.line) ≡ false;
  front : is_front l.kind (take l.size l.line) ≡ true;
  quiet : HasNoFault (g.In.Source.shown l.fn.input) (g.In.Source.shown l.input);
}

abbrev pub decreases-loop-size : goal.decreases-loop-size
decreases-loop-size g l = length l.line - l.size
