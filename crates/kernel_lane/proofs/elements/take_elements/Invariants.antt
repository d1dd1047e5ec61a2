use Rattle.std.proofs.Common.{◌≡◌, ℕ, ◌+◌, ◌*◌, ◌<◌, ◌≤◌, ◌⊎◌, slice_index_or}
use Rattle.kernel_lane.proofs.elements.take_elements.Given as goal

abbrev pub invariant-loop-i : goal.invariant-loop-i
invariant-loop-i g l = record {
  set : (i : ℕ) (d : _) → i < l.i
      → g.R.Element.number (slice_index_or l.to (l.at + i) d) ≡ g.R.Element.element l.from (l.start + i * g.row.C);
  kept : (j : ℕ) (d : _) → (j < l.at) ⊎ (l.at + l.i ≤ j) → slice_index_or l.to j d ≡ slice_index_or l.initial.to j d;
}
