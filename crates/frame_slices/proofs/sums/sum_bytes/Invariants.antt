-- The bytes so far are summed.
use Rattle.std.proofs.Common.{◌≡◌, ◌*◌, ◌≤◌, take}
use Rattle.std.specs.Prelude.{sum}
use Rattle.frame_slices.proofs.sums.sum_bytes.Given as goal

abbrev pub invariant-loop-k : goal.invariant-loop-k
invariant-loop-k l = record {
  value : l.total ≡ sum (take l.k l.bytes);
  most : l.total ≤ l.k * 255;
}
