-- The planes so far are summed.
use Rattle.std.proofs.Common.{◌≡◌, ◌≤◌, ◌*◌}
use Rattle.pix_desc.specs.Frame.{plane_start}
use Rattle.pix_io.proofs.frame.len_before.Given as goal

abbrev pub invariant-loop-before : goal.invariant-loop-before
invariant-loop-before l = record {
  value : l.len ≡ plane_start l.desc l.width l.height l.before;
  most : l.len ≤ l.before * (8 * (l.width * l.height));
}
