use Rattle.std.proofs.Common.{◌≡◌, ℕ, ◌+◌, ◌<◌, ◌≤◌, ◌⊎◌, slice_index_or}
use Rattle.kernel_lane.proofs.parts.merge_within.Given as goal

abbrev pub invariant-loop-k : goal.invariant-loop-k
invariant-loop-k g l = record {
  set : (k : ℕ) (x : _) (y : _) (z : _) → k < l.k → g.R.Merge.makes l.rule (slice_index_or l.initial.v (l.at + k) x)
      (slice_index_or l.initial.v (l.start + k) y) (slice_index_or l.v (l.at + k) z);
  kept : (i : ℕ) (x : _) → (i < l.at) ⊎ (l.at + l.k ≤ i) → slice_index_or l.v i x ≡ slice_index_or l.initial.v i x;
}
