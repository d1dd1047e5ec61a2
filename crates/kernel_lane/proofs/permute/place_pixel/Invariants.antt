use Rattle.std.proofs.Common.{◌≡◌, ℕ, ◌+◌, ◌*◌, ◌<◌, slice_index}
use Rattle.kernel_lane.proofs.permute.place_pixel.Given as goal

abbrev pub invariant-loop-e : goal.invariant-loop-e
invariant-loop-e g l = record {
  set : (e : ℕ) → e < l.e → slice_index l.places (l.i * g.row.C + e) ≡ l.i * g.row.C + slice_index l.order e;
  small : (j : ℕ) → j < 16 → slice_index l.places j < 16;
  before : (k : ℕ) → k < l.i * g.row.C → slice_index l.places k ≡ slice_index l.initial.places k;
}
