use Rattle.std.proofs.Common.{◌≡◌, ℕ, ◌+◌, ◌*◌, ◌<◌, ◌≤◌, slice_index}
use Rattle.kernel_lane.proofs.permute.permute_sixteens.Given as goal

abbrev pub invariant-loop-block : goal.invariant-loop-block
invariant-loop-block g l = record {
  set : (i e : ℕ) → i < l.block * g.row.P → e < g.row.C
      → slice_index l.to (i * g.row.C + e) ≡ slice_index l.from (i * g.row.C + slice_index l.order e);
  kept : (k : ℕ) → l.n * g.row.C ≤ k → slice_index l.to k ≡ slice_index l.initial.to k;
}
