-- A row with one product, or with those of the first three values.
use Rattle.std.proofs.Common.{◌≡◌, ℕ, zero, suc, ◌<◌, ◌⊎◌, ⊎_elim, ℤ, pos, ◌+ℤ◌, List, sym, ap, ◌∙◌, subst, arith, FitsSigned}
use Rattle.std.specs.Int.{Width}
use Rattle.kernel_step.specs.Forms.{factor}
use Rattle.kernel_step.specs.Rules.{with_product, row_sum, RowFits}
use Rattle.kernel_step.proofs.RowSums.{no_product}
use Rattle.kernel_affine.specs.Affine.{FitsOne, FitsThree, three_sum}

-- a factor 0 is left out
skipped : (row : List ℤ) (numbers : ℕ → ℤ) (j : ℕ) → factor row j ≡ pos 0 → row_sum row numbers (suc j) ≡ row_sum row numbers j
skipped row numbers j none = sym (no_product (row_sum row numbers j) (numbers j) (factor row j) none)

abbrev pub IsAlone : List ℤ → ℕ → Type 0
IsAlone row place = (j : ℕ) → j < 4 → (j ≡ place) ⊎ (factor row j ≡ pos 0)

other : (row : List ℤ) (place : ℕ) → IsAlone row place → (j : ℕ) → j < 4 → (j ≡ place → ⊥) → factor row j ≡ pos 0
other row place alone j small apart = ⊎_elim (λ (same : j ≡ place). absurd (apart same)) (λ (none : factor row j ≡ pos 0). none) (alone j small)

pub one_sum : (row : List ℤ) (numbers : ℕ → ℤ) (place : ℕ) → place < 4 → IsAlone row place
    → row_sum row numbers 4 ≡ with_product (factor row 4) (numbers place) (factor row place)
one_sum row numbers zero small alone =
    skipped row numbers 3 (other row 0 alone 3 (omega arith) (λ e. omega (arith, e)))
    ∙ skipped row numbers 2 (other row 0 alone 2 (omega arith) (λ e. omega (arith, e)))
    ∙ skipped row numbers 1 (other row 0 alone 1 (omega arith) (λ e. omega (arith, e)))
one_sum row numbers (suc zero) small alone =
    skipped row numbers 3 (other row 1 alone 3 (omega arith) (λ e. omega (arith, e)))
    ∙ skipped row numbers 2 (other row 1 alone 2 (omega arith) (λ e. omega (arith, e)))
    ∙ ap (λ t. with_product t (numbers 1) (factor row 1))
    (skipped row numbers 0 (other row 1 alone 0 (omega arith) (λ e. omega (arith, e))))
one_sum row numbers (suc (suc zero)) small alone =
    skipped row numbers 3 (other row 2 alone 3 (omega arith) (λ e. omega (arith, e)))
    ∙ ap (λ t. with_product t (numbers 2) (factor row 2))
    (skipped row numbers 1 (other row 2 alone 1 (omega arith) (λ e. omega (arith, e)))
    ∙ skipped row numbers 0 (other row 2 alone 0 (omega arith) (λ e. omega (arith, e))))
one_sum row numbers (suc (suc (suc zero))) small alone =
    ap (λ t. with_product t (numbers 3) (factor row 3))
    (skipped row numbers 2 (other row 3 alone 2 (omega arith) (λ e. omega (arith, e)))
    ∙ skipped row numbers 1 (other row 3 alone 1 (omega arith) (λ e. omega (arith, e)))
    ∙ skipped row numbers 0 (other row 3 alone 0 (omega arith) (λ e. omega (arith, e))))
one_sum row numbers (suc (suc (suc (suc place)))) small alone = absurd (omega (arith, small))

pub one_fits : (width : Width) (row : List ℤ) (numbers : ℕ → ℤ) (place : ℕ) (unit : ℤ) → place < 4 → IsAlone row place
    → FitsSigned width (numbers place) → RowFits width row numbers → FitsSigned width (row_sum row numbers 4 +ℤ unit)
    → FitsOne width (factor row 4) (factor row place) unit (numbers place)
one_fits width row numbers place unit small alone number fits last =
    let is = one_sum row numbers place small alone in record {
      number = number;
      product = fits.products place small;
      sum = subst (FitsSigned width) is (fits.sums 4 (omega arith));
      last = subst (λ t. FitsSigned width (t +ℤ unit)) is last;
    }

pub three_sums : (row : List ℤ) (numbers : ℕ → ℤ) → factor row 3 ≡ pos 0
    → row_sum row numbers 4
    ≡ three_sum (factor row 4) (factor row 0) (factor row 1) (factor row 2) (numbers 0) (numbers 1) (numbers 2)
three_sums row numbers none = skipped row numbers 3 none

pub three_fits : (width : Width) (row : List ℤ) (numbers : ℕ → ℤ) (unit : ℤ) → factor row 3 ≡ pos 0
    → FitsSigned width (numbers 0) → FitsSigned width (numbers 1) → FitsSigned width (numbers 2)
    → RowFits width row numbers → FitsSigned width (row_sum row numbers 4 +ℤ unit)
    → FitsThree width (factor row 4) (factor row 0) (factor row 1) (factor row 2) unit (numbers 0) (numbers 1) (numbers 2)
three_fits width row numbers unit none x y z fits last = record {
  numbers = (x, y, z);
  products = (fits.products 0 (omega arith), fits.products 1 (omega arith), fits.products 2 (omega arith));
  first = fits.sums 1 (omega arith);
  second = fits.sums 2 (omega arith);
  third = fits.sums 3 (omega arith);
  last = subst (λ t. FitsSigned width (t +ℤ unit)) (three_sums row numbers none) last;
}
