use Rattle.std.proofs.Common.{◌≡◌, ℕ, ◌+◌, ◌*◌, ◌<◌, ◌≤◌, slice_index}
use Rattle.kernel_lane.proofs.permute.permute_blocks.Given as goal

abbrev pub invariant-loop-i : goal.invariant-loop-i
invariant-loop-i g l = record {
  set : (i e : ℕ) → i < l.i → e < g.row.C
      → slice_index l.to (i * g.row.C + e) ≡ slice_index l.from (i * g.row.C + slice_index l.order e);
  kept : (k : ℕ) → l.n * g.row.C ≤ k → slice_index l.to k ≡ slice_index l.fn.to k;
}
