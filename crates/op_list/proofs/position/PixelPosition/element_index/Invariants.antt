use Rattle.std.proofs.Common.{◌≡◌, ◌+◌, drop}
use Rattle.std.specs.Prelude.{sum}
use Rattle.op_list.specs.Pixel.{element_in}
use Rattle.op_list.proofs.position.PixelPosition.element_index.Given as goal

abbrev pub invariant-loop-n : goal.invariant-loop-n
invariant-loop-n l = record {
  elements : l.i ≡ l.before + l.rest;
  left : sum l.planes ≡ l.before + sum (drop l.n-index l.planes);
  same : element_in l.pixels l.pixel 0 l.planes l.i ≡ element_in l.pixels l.pixel l.before (drop l.n-index l.planes) l.rest;
}
