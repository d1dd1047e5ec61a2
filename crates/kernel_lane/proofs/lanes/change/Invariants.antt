use Rattle.std.proofs.Common.{◌≡◌, ℕ, ◌*◌, ◌<◌, ◌≤◌, slice_index_or}
use Rattle.kernel_lane.proofs.lanes.change.Given as goal

abbrev pub invariant-loop-block : goal.invariant-loop-block
invariant-loop-block g l = record {
  set : (i : ℕ) (d : _) → i < l.block * g.row.N → g.R.Change.makes l.rule (slice_index_or l.initial.v i d) (slice_index_or l.v i d);
  kept : (i : ℕ) (d : _) → l.block * g.row.N ≤ i → slice_index_or l.v i d ≡ slice_index_or l.initial.v i d;
}

abbrev pub invariant-loop-i : goal.invariant-loop-i
invariant-loop-i g l = record {
  set : (i : ℕ) (d : _) → i < l.i → g.R.Change.makes l.rule (slice_index_or l.fn.v i d) (slice_index_or l.v i d);
  kept : (i : ℕ) (d : _) → l.i ≤ i → slice_index_or l.v i d ≡ slice_index_or l.fn.v i d;
}
