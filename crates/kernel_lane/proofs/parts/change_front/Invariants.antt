use Rattle.std.proofs.Common.{◌≡◌, ℕ, ◌<◌, ◌≤◌, slice_index_or}
use Rattle.kernel_lane.proofs.parts.change_front.Given as goal

abbrev pub invariant-loop-j : goal.invariant-loop-j
invariant-loop-j g l = record {
  set : (j : ℕ) (x : _) → j < l.j → g.R.Change.makes l.rule (slice_index_or l.initial.v j x) (slice_index_or l.v j x);
  kept : (j : ℕ) (x : _) → l.j ≤ j → slice_index_or l.v j x ≡ slice_index_or l.initial.v j x;
}
