use Rattle.std.proofs.Common.{◌≡◌, ℕ, ◌+◌, ◌*◌, ◌<◌, slice_index}
use Rattle.kernel_lane.proofs.blocks.split_pixels.Given as goal

abbrev pub invariant-loop-k : goal.invariant-loop-k
invariant-loop-k g l = (v i : ℕ) → v < g.row.C → i < 16 * l.k → slice_index l.to (64 * v + i) ≡ slice_index l.from (g.row.C * i + v)
