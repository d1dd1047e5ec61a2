use Rattle.std.proofs.Common.{◌≡◌, ℕ, ◌<◌}
use Rattle.kernel_affine.specs.Chain.{products_at}
use Rattle.kernel_affine.specs.declared.products.Products.TheVariants.{Three}
use Rattle.kernel_affine.proofs.steps.has_three.Given as goal

abbrev pub invariant-loop-v : goal.invariant-loop-v
invariant-loop-v l = (v : ℕ) → v < l.v → products_at l.products v ≡ Three → ⊥
