-- A row with one factor: its sum, and that it fits.
use Rattle.std.proofs.Common.{◌≡◌, ℕ, zero, suc, ◌<◌, ◌≤◌, ◌⊎◌, inl, inr, ⊎_elim, ℤ, pos, ◌*ℤ◌, ◌^◌, List, refl, sym, ap, ◌∙◌, subst}
use Rattle.std.proofs.Common.{arith, FitsSigned}
use Rattle.std.specs.Int.{Width}
use Rattle.std.proofs.Math.IntN.{zero-*ℤ, +ℤ_idl}
use Rattle.std.proofs.lemmas.Bool.{cases_lt}
use Rattle.std.proofs.lemmas.Int.{fits_signed_from_abs}
use Rattle.kernel_step.specs.Forms.{factor}
use Rattle.kernel_step.specs.Rules.{with_product, row_sum, RowFits}
use Rattle.kernel_step.proofs.RowSums.{no_product}
use Rattle.kernel_affine.specs.Chain.{single_row}
use Rattle.kernel_affine.proofs.AffineRows.{IsAlone, one_sum}

-- the factors of such a row
pub single_alone : (k : ℤ) (v : ℕ) → v < 4 → IsAlone (single_row k v) v
single_alone k zero small zero below = inl refl
single_alone k zero small (suc zero) below = inr refl
single_alone k zero small (suc (suc zero)) below = inr refl
single_alone k zero small (suc (suc (suc zero))) below = inr refl
single_alone k zero small (suc (suc (suc (suc j)))) below = absurd (omega (arith, below))
single_alone k (suc zero) small zero below = inr refl
single_alone k (suc zero) small (suc zero) below = inl refl
single_alone k (suc zero) small (suc (suc zero)) below = inr refl
single_alone k (suc zero) small (suc (suc (suc zero))) below = inr refl
single_alone k (suc zero) small (suc (suc (suc (suc j)))) below = absurd (omega (arith, below))
single_alone k (suc (suc zero)) small zero below = inr refl
single_alone k (suc (suc zero)) small (suc zero) below = inr refl
single_alone k (suc (suc zero)) small (suc (suc zero)) below = inl refl
single_alone k (suc (suc zero)) small (suc (suc (suc zero))) below = inr refl
single_alone k (suc (suc zero)) small (suc (suc (suc (suc j)))) below = absurd (omega (arith, below))
single_alone k (suc (suc (suc zero))) small zero below = inr refl
single_alone k (suc (suc (suc zero))) small (suc zero) below = inr refl
single_alone k (suc (suc (suc zero))) small (suc (suc zero)) below = inr refl
single_alone k (suc (suc (suc zero))) small (suc (suc (suc zero))) below = inl refl
single_alone k (suc (suc (suc zero))) small (suc (suc (suc (suc j)))) below = absurd (omega (arith, below))
single_alone k (suc (suc (suc (suc v)))) small j below = absurd (omega (arith, small))

pub single_factor : (k : ℤ) (v : ℕ) → v < 4 → factor (single_row k v) v ≡ k
single_factor k zero small = refl
single_factor k (suc zero) small = refl
single_factor k (suc (suc zero)) small = refl
single_factor k (suc (suc (suc zero))) small = refl
single_factor k (suc (suc (suc (suc v)))) small = absurd (omega (arith, small))

pub single_constant : (k : ℤ) (v : ℕ) → factor (single_row k v) 4 ≡ pos 0
single_constant k zero = refl
single_constant k (suc zero) = refl
single_constant k (suc (suc zero)) = refl
single_constant k (suc (suc (suc v))) = refl

from_none : (k n : ℤ) → with_product (pos 0) n k ≡ k *ℤ n
unfolding with_product
from_none k n = +ℤ_idl (k *ℤ n)

pub single_sum : (k : ℤ) (v : ℕ) (numbers : ℕ → ℤ) → v < 4 → row_sum (single_row k v) numbers 4 ≡ k *ℤ numbers v
single_sum k v numbers small =
    one_sum (single_row k v) numbers v small (single_alone k v small)
    ∙ ap (λ t. with_product t (numbers v) (factor (single_row k v) v)) (single_constant k v)
    ∙ ap (with_product (pos 0) (numbers v)) (single_factor k v small) ∙ from_none k (numbers v)

-- ---- what it works out
pub zero_fits : (width : Width) → FitsSigned width (pos 0)
zero_fits width = fits_signed_from_abs width (pos 0) (power _)
  where
    power : (n : ℕ) → 0 < 2 ^ n
    power zero = omega arith
    power (suc n) = omega (arith, power n)

-- each sum so far is nothing, or the product
abbrev Sums : List ℤ → (ℕ → ℤ) → ℕ → ℤ → ℕ → Type 0
Sums row numbers v m j = ((j ≤ v) × (row_sum row numbers j ≡ pos 0)) ⊎ ((v < j) × (row_sum row numbers j ≡ m))

sums_so_far : (row : List ℤ) (numbers : ℕ → ℤ) (k : ℤ) (v : ℕ) → IsAlone row v → factor row v ≡ k → factor row 4 ≡ pos 0
    → (j : ℕ) → j ≤ 4 → Sums row numbers v (k *ℤ numbers v) j
sums_so_far row numbers k v alone is constant zero most = inl (omega arith, constant)
sums_so_far row numbers k v alone is constant (suc j) most =
    ⊎_elim before behind (sums_so_far row numbers k v alone is constant j (omega (arith, most)))
  where
    before : (j ≤ v) × (row_sum row numbers j ≡ pos 0) → Sums row numbers v (k *ℤ numbers v) (suc j)
    before so_far =
        ⊎_elim
        (λ (less : j < v).
        let none : factor row j ≡ pos 0 =
        ⊎_elim (λ (same : j ≡ v). absurd (omega (arith, same, less))) (λ (none : factor row j ≡ pos 0). none) (alone j (omega (arith, most))) in
        inl (omega (arith, less), sym (no_product (row_sum row numbers j) (numbers j) (factor row j) none) ∙ so_far.1))
        (λ (past : v ≤ j).
        let here : j ≡ v = omega (arith, past, so_far.0) in
        inr (
          omega (arith, past),
          ap (λ t. with_product t (numbers j) (factor row j)) so_far.1 ∙ from_none (factor row j) (numbers j)
              ∙ ap (λ u. factor row u *ℤ numbers u) here ∙ ap (λ t. t *ℤ numbers v) is,
        ))
        (cases_lt j v)

    behind : (v < j) × (row_sum row numbers j ≡ k *ℤ numbers v) → Sums row numbers v (k *ℤ numbers v) (suc j)
    behind so_far =
        let none : factor row j ≡ pos 0 =
        ⊎_elim (λ (same : j ≡ v). absurd (omega (arith, same, so_far.0))) (λ (none : factor row j ≡ pos 0). none)
        (alone j (omega (arith, most))) in
        inr (omega (arith, so_far.0), sym (no_product (row_sum row numbers j) (numbers j) (factor row j) none) ∙ so_far.1)

product_fits : (width : Width) (row : List ℤ) (numbers : ℕ → ℤ) (k : ℤ) (v : ℕ) → IsAlone row v → factor row v ≡ k
    → FitsSigned width (k *ℤ numbers v) → (j : ℕ) → j < 4 → FitsSigned width (factor row j *ℤ numbers j)
product_fits width row numbers k v alone is fits j below =
    ⊎_elim
    (λ (here : j ≡ v).
    subst (FitsSigned width) (sym (ap (λ u. factor row u *ℤ numbers u) here ∙ ap (λ t. t *ℤ numbers v) is)) fits)
    (λ (none : factor row j ≡ pos 0).
    subst (FitsSigned width) (sym (ap (λ t. t *ℤ numbers j) none ∙ zero-*ℤ (numbers j))) (zero_fits width))
    (alone j below)

pub single_fits : (width : Width) (k : ℤ) (v : ℕ) (numbers : ℕ → ℤ) → v < 4 → FitsSigned width (k *ℤ numbers v)
    → RowFits width (single_row k v) numbers
single_fits width k v numbers small fits =
    let alone = single_alone k v small in
    let is = single_factor k v small in
    record {
      products = product_fits width (single_row k v) numbers k v alone is fits;
      sums = λ j most.
          ⊎_elim
          (λ (none : (j ≤ v) × (row_sum (single_row k v) numbers j ≡ pos 0)). subst (FitsSigned width) (sym none.1) (zero_fits width))
          (λ (there : (v < j) × (row_sum (single_row k v) numbers j ≡ k *ℤ numbers v)). subst (FitsSigned width) (sym there.1) fits)
          (sums_so_far (single_row k v) numbers k v alone is (single_constant k v) j most);
    }

-- its entries
pub single_entries : (width : Width) (k : ℤ) (v : ℕ) → v < 4 → FitsSigned width k → (j : ℕ) → j < 5
    → FitsSigned width (factor (single_row k v) j)
single_entries width k v small fits j below =
    ⊎_elim
    (λ (less : j < 4).
    ⊎_elim
    (λ (here : j ≡ v). subst (λ u. FitsSigned width (factor (single_row k v) u)) (sym here)
    (subst (FitsSigned width) (sym (single_factor k v small)) fits))
    (λ (none : factor (single_row k v) j ≡ pos 0). subst (FitsSigned width) (sym none) (zero_fits width))
    (single_alone k v small j less))
    (λ (last : 4 ≤ j).
    let here : j ≡ 4 = omega (arith, last, below) in
    subst (λ u. FitsSigned width (factor (single_row k v) u)) (sym here)
    (subst (FitsSigned width) (sym (single_constant k v)) (zero_fits width)))
    (cases_lt j 4)
