use Rattle.std.proofs.Common.{add-one, arith}
use Rattle.pix_io.proofs.Frames.{planes-bound}
use Rattle.pix_io.proofs.frame.len_before.Goals as goal

pub loop-before-preserved : goal.loop-before-preserved
loop-before-preserved c = record {
  value = rw add-one (cc (c.row_len.ensures.value, c.from.ensures, c.loop-before.invariant.value));
  most = grind (
    arith,
    planes-bound c.loop-before.len c.row_len.result c.args.width c.args.height c.loop-before.before
        c.loop-before.invariant.most c.row_len.ensures.most,
  );
}
