use Rattle.std.proofs.Common.{◌≡◌, ◌≢◌, ℕ, ◌+◌, ◌*◌, ◌<◌, slice_index_or}
use Rattle.kernel_lane.proofs.elements.put_elements.Given as goal

abbrev pub invariant-loop-i : goal.invariant-loop-i
invariant-loop-i g l = record {
  set : (i : ℕ) (d : _) → i < l.i
      → g.R.Element.element l.to (l.start + i * g.row.C) ≡ g.R.Element.number (slice_index_or l.values (l.at + i) d);
  kept : (k : ℕ) → ((i : ℕ) → i < l.i → k ≢ l.start + i * g.row.C)
      → g.R.Element.element l.to k ≡ g.R.Element.element l.initial.to k;
}
