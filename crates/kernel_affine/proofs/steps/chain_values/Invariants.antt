use Rattle.std.proofs.Common.{◌≡◌, ℕ, ◌+◌, ◌*◌, ◌<◌, slice_index_or}
use Rattle.kernel_affine.specs.Affine.{whole_lane}
use Rattle.kernel_affine.specs.Chain.{chain_number}
use Rattle.kernel_affine.proofs.steps.chain_values.Given as goal

abbrev pub invariant-loop-v : goal.invariant-loop-v
invariant-loop-v g l = (v i : ℕ) (d e : _) → v < l.v → i < 64 → g.N.Numerator.value (slice_index_or l.numbers (64 * v + i) e)
    ≡ chain_number l.ops l.forms l.chain (whole_lane g.W.WholeNumber.number l.values i d) v
