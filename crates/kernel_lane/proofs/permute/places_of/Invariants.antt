use Rattle.std.proofs.Common.{◌≡◌, ℕ, ◌+◌, ◌*◌, ◌<◌, length, slice_index}
use Rattle.kernel_lane.proofs.permute.places_of.Given as goal

abbrev pub invariant-loop-i : goal.invariant-loop-i
invariant-loop-i g l = record {
  set : (i e : ℕ) → i < l.i → e < g.row.C → slice_index l.places (i * g.row.C + e) ≡ i * g.row.C + slice_index l.order e;
  size : length l.places ≡ 16;
  small : (j : ℕ) → j < 16 → slice_index l.places j < 16;
}
