use Rattle.std.proofs.Common.{◌≡◌, ◌≢◌, ℕ, ◌+◌, ◌*◌, ◌<◌}
use Rattle.kernel_lane.proofs.elements.move_elements.Given as goal

abbrev pub invariant-loop-i : goal.invariant-loop-i
invariant-loop-i g l = record {
  set : (i : ℕ) → i < l.i
      → g.R.Element.element l.to (l.at + i * g.row.D) ≡ g.R.Element.element l.from (l.start + i * g.row.C);
  kept : (k : ℕ) → ((i : ℕ) → i < l.i → k ≢ l.at + i * g.row.D)
      → g.R.Element.element l.to k ≡ g.R.Element.element l.initial.to k;
}
