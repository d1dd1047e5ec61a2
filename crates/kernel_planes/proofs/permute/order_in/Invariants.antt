use Rattle.std.proofs.Common.{◌≡◌, ℕ, ◌+◌, ◌<◌, length, slice_index, take}
use Rattle.std.specs.Prelude.{sum}
use Rattle.kernel_planes.proofs.permute.order_in.Given as goal

abbrev pub invariant-loop-e : goal.invariant-loop-e
invariant-loop-e l = record {
  size : length l.places ≡ 4;
  small : (e : ℕ) → e < l.e → slice_index l.places e < l.count;
  values : (e : ℕ) → e < l.e → slice_index l.from (l.before + e) ≡ sum (take l.plane l.planes) + slice_index l.places e;
}
