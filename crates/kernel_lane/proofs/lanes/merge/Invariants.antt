use Rattle.std.proofs.Common.{◌≡◌, ℕ, ◌*◌, ◌<◌, ◌≤◌, slice_index_or}
use Rattle.kernel_lane.proofs.lanes.merge.Given as goal

abbrev pub invariant-loop-block : goal.invariant-loop-block
invariant-loop-block g l = record {
  set : (i : ℕ) (x : _) (y : _) (z : _) → i < l.block * g.row.N
      → g.R.Merge.makes l.rule (slice_index_or l.initial.to i x) (slice_index_or l.from i y) (slice_index_or l.to i z);
  kept : (i : ℕ) (d : _) → l.block * g.row.N ≤ i → slice_index_or l.to i d ≡ slice_index_or l.initial.to i d;
}

abbrev pub invariant-loop-i : goal.invariant-loop-i
invariant-loop-i g l = record {
  set : (i : ℕ) (x : _) (y : _) (z : _) → i < l.i
      → g.R.Merge.makes l.rule (slice_index_or l.fn.to i x) (slice_index_or l.from i y) (slice_index_or l.to i z);
  kept : (i : ℕ) (d : _) → l.i ≤ i → slice_index_or l.to i d ≡ slice_index_or l.fn.to i d;
}
