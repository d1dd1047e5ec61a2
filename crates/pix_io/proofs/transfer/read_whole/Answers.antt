use Rattle.std.proofs.Common.{◌-◌, length, rules}
use Rattle.pix_io.proofs.Parts.{Consumes-behind}
use Rattle.pix_io.proofs.transfer.read_whole.Goals as goal

pub loop-filled-preserved : goal.loop-filled-preserved
loop-filled-preserved g c = record {
  within = search rules;
  taken = Consumes-behind _ _ _ c.loop-filled.buf c.read.new.buf c.loop-filled.filled
      (length c.loop-filled.buf - c.loop-filled.filled) c.in_ok-count.count c.loop-filled.invariant.within c.in_ok-count.ensures.bound.0
      c.loop-filled.invariant.taken c.in_ok-count.ensures.bytes.0;
  quiet = search rules;
}
