use Rattle.std.proofs.Common.{◌≡◌, ℕ, ◌<◌, length}
use Rattle.kernel_affine.specs.Affine.{AreTaken}
use Rattle.kernel_affine.specs.Chain.{map_row, products_at}
use Rattle.kernel_affine.proofs.chain.products_of_map.Given as goal

abbrev pub invariant-loop-v : goal.invariant-loop-v
invariant-loop-v l = record {
  size : length l.products ≡ 4;
  taken : (v : ℕ) → v < l.v → AreTaken (products_at l.products v) (map_row l.op l.after v) l.before.count;
}
