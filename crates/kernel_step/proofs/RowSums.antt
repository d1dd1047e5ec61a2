-- Sums of products.
use Rattle.std.proofs.Common.{◌≡◌, ℤ, pos, ◌+ℤ◌, ◌*ℤ◌, sym, ap, ◌∙◌}
use Rattle.std.proofs.Math.IntN.{zero-*ℤ, +ℤ_idr}
use Rattle.kernel_step.specs.Rules.{with_product}

-- a product with the coefficient 0 adds nothing
pub no_product : (sum number k : ℤ) → k ≡ pos 0 → sum ≡ with_product sum number k
unfolding with_product
no_product sum number k none = sym (ap (λ t. sum +ℤ (t *ℤ number)) none ∙ ap (λ t. sum +ℤ t) (zero-*ℤ number) ∙ +ℤ_idr sum)
