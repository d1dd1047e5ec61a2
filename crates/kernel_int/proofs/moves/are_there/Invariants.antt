use Rattle.std.proofs.Common.{ℕ, ◌<◌, slice_index}
use Rattle.std.specs.Prelude.{sum}
use Rattle.kernel_int.proofs.moves.are_there.Given as goal

abbrev pub invariant-loop-v : goal.invariant-loop-v
invariant-loop-v l = record { below : (v : ℕ) → v < l.v → slice_index l.moves.from v < sum l.moves.planes }
