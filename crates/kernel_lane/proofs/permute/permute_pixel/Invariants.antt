use Rattle.std.proofs.Common.{◌≡◌, ℕ, ◌+◌, ◌*◌, ◌<◌, ◌≤◌, ◌⊎◌, slice_index}
use Rattle.kernel_lane.proofs.permute.permute_pixel.Given as goal

abbrev pub invariant-loop-e : goal.invariant-loop-e
invariant-loop-e g l = record {
  set : (e : ℕ) → e < l.e
      → slice_index l.to (l.i * g.row.C + e) ≡ slice_index l.from (l.i * g.row.C + slice_index l.order e);
  kept : (k : ℕ) → (k < l.i * g.row.C) ⊎ (l.i * g.row.C + g.row.C ≤ k)
      → slice_index l.to k ≡ slice_index l.initial.to k;
}
