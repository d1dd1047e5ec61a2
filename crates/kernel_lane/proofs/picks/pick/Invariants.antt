use Rattle.std.proofs.Common.{◌≡◌, ℕ, ◌+◌, ◌*◌, ◌<◌, slice_index_or}
use Rattle.kernel_lane.proofs.picks.pick.Given as goal

abbrev pub invariant-loop-block : goal.invariant-loop-block
invariant-loop-block g l = record {
  set : (i : ℕ) (d : _) → i < l.block * g.row.N → slice_index_or l.to i d ≡ slice_index_or l.from (i * l.step + l.at) d;
}

abbrev pub invariant-loop-i : goal.invariant-loop-i
invariant-loop-i g l = record {
  set : (i : ℕ) (d : _) → i < l.i → slice_index_or l.to i d ≡ slice_index_or l.from (i * l.step + l.at) d;
}
