use Rattle.std.proofs.Common.{◌≡◌, ℕ, ◌+◌, ◌<◌, ◌≤◌, ◌⊎◌, slice_index_or}
use Rattle.kernel_lane.proofs.combine.combine_part.Given as goal

abbrev pub invariant-loop-k : goal.invariant-loop-k
invariant-loop-k g l = record {
  set : (k : ℕ) (x : _) (y : _) (z : _) (d : _) → k < l.k → g.R.Combine.makes l.rule (slice_index_or l.from (l.first + k) x)
      (slice_index_or l.from (l.second + k) y) (slice_index_or l.from (l.third + k) z) (slice_index_or l.to (l.at + k) d);
  kept : (i : ℕ) (d : _) → (i < l.at) ⊎ (l.at + l.k ≤ i) → slice_index_or l.to i d ≡ slice_index_or l.initial.to i d;
}
