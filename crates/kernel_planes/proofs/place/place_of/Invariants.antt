use Rattle.std.proofs.Common.{◌≡◌, ◌≤◌, take}
use Rattle.std.specs.Prelude.{sum}
use Rattle.kernel_planes.proofs.place.place_of.Given as goal

abbrev pub invariant-loop-p : goal.invariant-loop-p
invariant-loop-p l = record {
  before : l.before ≡ sum (take l.p l.planes);
  past : l.before ≤ l.v;
}
