-- The factor of a coefficient over a denominator.
use Rattle.std.proofs.Common.{◌≡◌, ℕ, zero, suc, ◌*◌, ◌<◌, ◌⊎◌, inl, inr, ⊎_elim, List, [], ◌∷◌, ℤ, pos, negsuc, ◌*ℤ◌, sym, ap, ◌∙◌, arith}
use Rattle.std.proofs.Common.{FitsSigned, refl}
use Rattle.std.specs.Prelude.{◌<ℤ◌, unsigned_abs}
use Rattle.std.specs.Int.{Width}
use Rattle.std.proofs.lemmas.Int.{ints}
use Rattle.frac_math.specs.Fraction.{ℚ}
use Rattle.kernel_step.specs.declared.form.Form.{Form}
use Rattle.kernel_step.specs.Forms.{IsZero, IsTerm, IsRow, IsRange, IsInside, HasNumbers, factor, denominator, extent_at}
use Rattle.op_list.specs.Values.{fraction_in}
use Rattle.kernel_step.proofs.Intervals.{four_cases}

positive_left : (a : ℤ) (q : ℕ) → pos 0 <ℤ (a *ℤ pos q) → a ≡ pos (unsigned_abs a)
positive_left (pos n) q h = refl
positive_left (negsuc n) zero h = absurd (omega (arith, ints, h))
positive_left (negsuc n) (suc q) h = absurd (omega (arith, ints, h))

pub positive_whole : (d : ℤ) → pos 0 <ℤ d → d ≡ pos (unsigned_abs d)
positive_whole (pos n) h = refl
positive_whole (negsuc n) h = absurd (omega (arith, ints, h))

pub term_made : (before : Form) (c : ℚ) (k d : ℤ) (j : ℕ) → j < before.count → pos 0 <ℤ d
    → pos 0 <ℤ ((extent_at before j).denominator *ℤ pos c.denominator)
    → k *ℤ ((extent_at before j).denominator *ℤ pos c.denominator) ≡ c.numerator *ℤ d → IsTerm before c k (unsigned_abs d) j
term_made before c k d j some positive below same =
    let left : (extent_at before j).denominator ≡ pos (denominator before j) =
    positive_left (extent_at before j).denominator c.denominator below in
    inl (some, ap (λ t. k *ℤ (t *ℤ pos c.denominator)) (sym left) ∙ same ∙ ap (λ t. c.numerator *ℤ t) (positive_whole d positive))

-- ---- a row
has_numbers : (before : Form) (row : List ℚ) (factors : List ℤ) (d : ℕ)
    → ((j : ℕ) → j < 4 → IsTerm before (fraction_in row j) (factor factors j) d j)
    → (numbers : ℕ → ℤ) → IsInside before numbers → HasNumbers before factors numbers
has_numbers before row factors d terms numbers inside j small =
    ⊎_elim
    (λ (some : (j < before.count) × (factor factors j *ℤ pos (denominator before j * (fraction_in row j).denominator)
    ≡ (fraction_in row j).numerator *ℤ pos d)). inr (inside j some.0))
    (λ (none : (factor factors j ≡ pos 0) × (((fraction_in row j).numerator ≡ pos 0) ⊎ IsZero before j)). inl none.0)
    (terms j small)

pub row_made : (w : Width) (before : Form) (row : List ℚ) (k0 k1 k2 k3 k4 d least greatest : ℤ) → pos 0 <ℤ d
    → IsTerm before (fraction_in row 0) k0 (unsigned_abs d) 0 → IsTerm before (fraction_in row 1) k1 (unsigned_abs d) 1
    → IsTerm before (fraction_in row 2) k2 (unsigned_abs d) 2 → IsTerm before (fraction_in row 3) k3 (unsigned_abs d) 3
    → k4 *ℤ pos (fraction_in row 4).denominator ≡ (fraction_in row 4).numerator *ℤ d
    → ((j : ℕ) → j < 5 → FitsSigned w (factor (k0 ∷ k1 ∷ k2 ∷ k3 ∷ k4 ∷ []) j))
    → IsRange w before (k0 ∷ k1 ∷ k2 ∷ k3 ∷ k4 ∷ []) least greatest
    → IsRow w before row (k0 ∷ k1 ∷ k2 ∷ k3 ∷ k4 ∷ []) (record { denominator = d; least = least; greatest = greatest })
row_made w before row k0 k1 k2 k3 k4 d least greatest positive t0 t1 t2 t3 constant entries range =
    let factors : List ℤ = k0 ∷ k1 ∷ k2 ∷ k3 ∷ k4 ∷ [] in
    let terms : (j : ℕ) → j < 4 → IsTerm before (fraction_in row j) (factor factors j) (unsigned_abs d) j =
    λ j small. four_cases (λ t. IsTerm before (fraction_in row t) (factor factors t) (unsigned_abs d) t) j small t0 t1 t2 t3 in
    record {
      positive = omega (arith, ints, positive, positive_whole d positive);
      terms = terms;
      constant = constant ∙ ap (λ t. (fraction_in row 4).numerator *ℤ t) (positive_whole d positive);
      entries = entries;
      fits = λ numbers inside. range.fits numbers (has_numbers before row factors (unsigned_abs d) terms numbers inside);
      inside = λ numbers inside. range.inside numbers (has_numbers before row factors (unsigned_abs d) terms numbers inside);
    }

pub five : {a b c d e v w x y z : ℤ} → a ≡ v → b ≡ w → c ≡ x → d ≡ y → e ≡ z → a ∷ b ∷ c ∷ d ∷ e ∷ [] ≡ v ∷ w ∷ x ∷ y ∷ z ∷ []
five p q r s t = rw (p, q, r, s, t) refl
