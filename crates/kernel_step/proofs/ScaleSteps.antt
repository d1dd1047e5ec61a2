-- Value v of a block times a factor.
use Rattle.std.proofs.Common.{◌≡◌, ℕ, zero, suc, ◌+◌, ◌*◌, ◌^◌, ◌<◌, ⊎_elim, List, ℤ, pos, ◌*ℤ◌, sym, ap, ◌∙◌, subst, arith, slice_index_or}
use Rattle.std.specs.Prelude.{◌≤ℤ◌, unsigned_abs, FitsSigned}
use Rattle.std.proofs.lemmas.Int.{ints, fits_signed_from_abs}
use Rattle.frac_math.specs.Standing.{Stands}
use Rattle.std.specs.Int.{Width}
use Rattle.frac_math.specs.Fraction.{ℚ, nat, ◌*ℚ◌}
use Rattle.kernel_step.specs.declared.form.Extent.{Extent}
use Rattle.kernel_step.specs.ValueSteps.{AreIn, IsIn, IsNothing, IsScaled, IsScaling, MakesValue}
use Rattle.kernel_step.proofs.ValueFractions.{factor_stands, same_stands}

-- each number times k
abbrev pub Scales : {N : Type 0} → (N → ℤ) → ℤ → ℕ → List N → List N → Type 0
Scales {N} value k v old new = (i : ℕ) (d : N) → i < 64 → value (slice_index_or new (64 * v + i) d) ≡ k *ℤ value
    (slice_index_or old (64 * v + i) d)

pub scaled : {N : Type 0} (value : N → ℤ) (width : Width) (by : ℚ) (k : ℤ) (v : ℕ) (numbers made : List N) (old new : Extent)
    → IsScaled width old by k new → AreIn value numbers v old → Scales value k v numbers made
    → MakesValue value numbers made v old new (λ i x. x *ℚ by)
scaled {N} value width by k v numbers made old new is within scales = record {
  inside = λ i d below. rw (scales i d below) (is.inside (value (slice_index_or numbers (64 * v + i) d)) (within i d below));
  exact = λ i d x below stands. rw (scales i d below)
      (factor_stands old by k new x (value (slice_index_or numbers (64 * v + i) d)) is.over stands);
}

-- ---- a value that is always 0
nothing_in : (old : Extent) (n : ℤ) → old.least ≡ pos 0 → old.greatest ≡ pos 0 → IsIn old n → n ≡ pos 0
nothing_in old n least greatest within =
    antisymmetric n (subst (λ z. z ≤ℤ n) least within.0) (subst (λ z. n ≤ℤ z) greatest within.1)
  where
    antisymmetric : (n : ℤ) → pos 0 ≤ℤ n → n ≤ℤ pos 0 → n ≡ pos 0
    antisymmetric n low high = grind (arith, ints)

nothing_product : (k n : ℤ) → n ≡ pos 0 → k *ℤ n ≡ pos 0
nothing_product k n none = ap (λ z. k *ℤ z) none ∙ omega (arith, ints)

zero_fits : (width : Width) → FitsSigned width (pos 0)
zero_fits width = fits_signed_from_abs width (pos 0) (power _)
  where
    power : (n : ℕ) → 0 < 2 ^ n
    power zero = omega arith
    power (suc n) = omega (arith, power n)

pub scaling_fits : (width : Width) (old new : Extent) (by : ℚ) (k : ℤ) → IsScaling width old by k new → FitsSigned width k
scaling_fits width old new by k is =
    ⊎_elim (λ (scaled : IsScaled width old by k new). scaled.fits)
    (λ (nothing : IsNothing old by k new). subst (FitsSigned width) (sym nothing.zero) (zero_fits width)) is

pub scaling_product : (width : Width) (old new : Extent) (by : ℚ) (k : ℤ) → IsScaling width old by k new → (n : ℤ) → IsIn old n
    → FitsSigned width (k *ℤ n)
scaling_product width old new by k is n within =
    ⊎_elim (λ (scaled : IsScaled width old by k new). scaled.products n within)
    (λ (nothing : IsNothing old by k new).
    subst (FitsSigned width) (sym (nothing_product k n (nothing_in old n nothing.least nothing.greatest within))) (zero_fits width)) is

pub scaling : {N : Type 0} (value : N → ℤ) (width : Width) (by : ℚ) (k : ℤ) (v : ℕ) (numbers made : List N) (old new : Extent)
    → IsScaling width old by k new → AreIn value numbers v old → Scales value k v numbers made
    → MakesValue value numbers made v old new (λ i x. x *ℚ by)
scaling {N} value width by k v numbers made old new is within scales =
    ⊎_elim (λ (factor : IsScaled width old by k new). scaled value width by k v numbers made old new factor within scales) nothing is
  where
    nothing : IsNothing old by k new → MakesValue value numbers made v old new (λ i x. x *ℚ by)
    nothing dropped =
        let none = λ (i : ℕ) (d : N) (below : i < 64).
        nothing_in old (value (slice_index_or numbers (64 * v + i) d)) dropped.least dropped.greatest (within i d below) in
        let is = λ (i : ℕ) (d : N) (below : i < 64).
        scales i d below ∙ nothing_product k (value (slice_index_or numbers (64 * v + i) d)) (none i d below) in
        record {
          inside = λ i d below. rw (is i d below) dropped.there;
          exact = λ i d x below stands.
              let n = value (slice_index_or numbers (64 * v + i) d) in
              rw (is i d below)
              (subst (λ z. Stands (x *ℚ by) z (unsigned_abs new.denominator)) (nothing_product dropped.other n (none i d below))
              (factor_stands old by dropped.other new x n dropped.over stands));
        }

-- over another denominator, the same fractions
pub scaled_same : {N : Type 0} (value : N → ℤ) (width : Width) (k : ℤ) (v : ℕ) (numbers made : List N) (old new : Extent)
    → IsScaled width old (nat 1) k new → AreIn value numbers v old → Scales value k v numbers made
    → MakesValue value numbers made v old new (λ i x. x)
scaled_same {N} value width k v numbers made old new is within scales = record {
  inside = λ i d below. rw (scales i d below) (is.inside (value (slice_index_or numbers (64 * v + i) d)) (within i d below));
  exact = λ i d x below stands. rw (scales i d below)
      (same_stands old k new x (value (slice_index_or numbers (64 * v + i) d)) is.over stands);
}
