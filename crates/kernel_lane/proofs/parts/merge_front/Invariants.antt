use Rattle.std.proofs.Common.{◌≡◌, ℕ, ◌<◌, ◌≤◌, slice_index_or}
use Rattle.kernel_lane.proofs.parts.merge_front.Given as goal

abbrev pub invariant-loop-j : goal.invariant-loop-j
invariant-loop-j g l = record {
  set : (j : ℕ) (x : _) (y : _) (z : _) → j < l.j → g.R.Merge.makes l.rule (slice_index_or l.initial.to j x)
      (slice_index_or l.from j y) (slice_index_or l.to j z);
  kept : (j : ℕ) (x : _) → l.j ≤ j → slice_index_or l.to j x ≡ slice_index_or l.initial.to j x;
}
