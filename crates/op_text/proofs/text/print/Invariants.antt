use Rattle.std.proofs.Common.{◌≡◌, take, string_bytes}
use Rattle.op_text.specs.Line.{text_of}
use Rattle.op_text.proofs.text.print.Given as goal

abbrev pub invariant-loop-op : goal.invariant-loop-op
invariant-loop-op l = string_bytes l.text ≡ text_of (take l.op-index l.list)
