-- Numerators over their denominators: what a row of factors stands for.
use Rattle.std.proofs.Common.{◌≡◌, ℕ, ◌*◌, ◌<◌, ⊎_elim, Bool, false, ℤ, pos, ◌*ℤ◌, List, [], ◌∷◌, slice_index_or, refl, sym, ap, ◌∙◌, arith}
use Rattle.std.specs.Prelude.{unsigned_abs, ◌≤ℤ◌, ◌⊎◌}
use Rattle.std.proofs.lemmas.Int.{ints}
use Rattle.std.specs.Int.{Width}
use Rattle.std.proofs.Math.IntN.{zero-*ℤ, *ℤ_comm}
use Rattle.frac_math.specs.Fraction.{ℚ, nat, ◌*ℚ◌}
use Rattle.frac_math.specs.Standing.{Stands}
use Rattle.frac_math.proofs.FractionRing.{itself, change, common_add, mul_stands}
use Rattle.frac_math.proofs.Ring.{ring_from, var, ◌⊗◌, minus, by, done}
use Rattle.frac_math.proofs.Integers.{ints_ring}
use Rattle.op_list.specs.declared.values.Values.{Values}
use Rattle.op_list.specs.declared.values.Values.TheVariants.{Numbers, Fractions}
use Rattle.op_list.specs.declared.types.PixType.TheVariants.{Rat}
use Rattle.op_list.specs.Values.{fraction, fraction_in, number, are_fractions}
use Rattle.op_list.specs.Apply.{row_value, product, converted}
use Rattle.kernel_step.specs.declared.form.Extent.{Extent}
use Rattle.kernel_step.specs.declared.form.Form.{Form}
use Rattle.kernel_step.specs.Rules.{with_product, row_sum}
use Rattle.kernel_step.specs.Forms.{denominator, extent_at, factor, IsTerm, IsRow, IsZero, IsInside}
use Rattle.kernel_step.proofs.Fours.{four_at}

-- a coefficient times a value
pub term_stands : (before : Form) (c x : ℚ) (k n : ℤ) (extent : Extent) (j : ℕ) → 0 < unsigned_abs extent.denominator
    → (j < before.count → Stands x n (denominator before j))
    → (j < before.count → ((extent_at before j).least ≤ℤ n) × (n ≤ℤ (extent_at before j).greatest))
    → IsTerm before c k (unsigned_abs extent.denominator) j → Stands (c *ℚ x) (k *ℤ n) (unsigned_abs extent.denominator)
term_stands before c x k n extent j positive stands inside is =
    ⊎_elim
    (λ (some : (j < before.count) × (k *ℤ pos (denominator before j * c.denominator) ≡ c.numerator
    *ℤ pos (unsigned_abs extent.denominator))).
    change (c *ℚ x) (c.numerator *ℤ n) (k *ℤ n) (c.denominator * denominator before j) (unsigned_abs extent.denominator)
    (mul_stands c x c.numerator n c.denominator (denominator before j) (itself c) (stands some.0)) positive
    (ring_from ints_ring (c.numerator ∷ n ∷ pos (unsigned_abs extent.denominator) ∷ k ∷ pos c.denominator ∷ pos (denominator before j) ∷ [])
    (var 0 ⊗ var 1 ⊗ var 2) (var 3 ⊗ var 1 ⊗ (var 4 ⊗ var 5))
    (by (minus (var 1)) (var 3 ⊗ (var 5 ⊗ var 4)) (var 0 ⊗ var 2) done) (some.1, tt) refl))
    (λ (dropped : (k ≡ pos 0) × ((c.numerator ≡ pos 0) ⊎ IsZero before j)).
    ⊎_elim
    (λ (zero : c.numerator ≡ pos 0). no_coefficient zero dropped.0)
    (λ (zero : IsZero before j). no_value zero dropped.0)
    dropped.1)
    is
  where
    no_coefficient : c.numerator ≡ pos 0 → k ≡ pos 0 → Stands (c *ℚ x) (k *ℤ n) (unsigned_abs extent.denominator)
    no_coefficient zero none =
        change (c *ℚ x) (c.numerator *ℤ x.numerator) (k *ℤ n) (c.denominator * x.denominator) (unsigned_abs extent.denominator)
        (mul_stands c x c.numerator x.numerator c.denominator x.denominator (itself c) (itself x)) positive
        (ap (λ t. t *ℤ x.numerator *ℤ pos (unsigned_abs extent.denominator)) zero
        ∙ ap (λ t. t *ℤ pos (unsigned_abs extent.denominator)) (zero-*ℤ x.numerator)
        ∙ zero-*ℤ (pos (unsigned_abs extent.denominator)) ∙ sym (zero-*ℤ (pos (c.denominator * x.denominator)))
        ∙ ap (λ t. t *ℤ pos (c.denominator * x.denominator)) (sym (zero-*ℤ n))
        ∙ ap (λ t. t *ℤ n *ℤ pos (c.denominator * x.denominator)) (sym none))

    no_value : IsZero before j → k ≡ pos 0 → Stands (c *ℚ x) (k *ℤ n) (unsigned_abs extent.denominator)
    no_value zero none =
        let within = inside zero.0 in
        let nothing : n ≡ pos 0 = between n (extent_at before j).least (extent_at before j).greatest zero.1 zero.2 within.0 within.1 in
        change (c *ℚ x) (c.numerator *ℤ n) (k *ℤ n) (c.denominator * denominator before j) (unsigned_abs extent.denominator)
        (mul_stands c x c.numerator n c.denominator (denominator before j) (itself c) (stands zero.0)) positive
        (ap (λ t. c.numerator *ℤ t *ℤ pos (unsigned_abs extent.denominator)) nothing
        ∙ ap (λ t. t *ℤ pos (unsigned_abs extent.denominator)) (times_zero c.numerator)
        ∙ zero-*ℤ (pos (unsigned_abs extent.denominator)) ∙ sym (zero-*ℤ (pos (c.denominator * denominator before j)))
        ∙ ap (λ t. t *ℤ pos (c.denominator * denominator before j)) (sym (zero-*ℤ n))
        ∙ ap (λ t. t *ℤ n *ℤ pos (c.denominator * denominator before j)) (sym none))
      where
        between : (n a b : ℤ) → a ≡ pos 0 → b ≡ pos 0 → a ≤ℤ n → n ≤ℤ b → n ≡ pos 0
        between n a b low high above below = omega (arith, ints, low, high, above, below)

        times_zero : (a : ℤ) → a *ℤ pos 0 ≡ pos 0
        times_zero a = *ℤ_comm a (pos 0) ∙ zero-*ℤ a

-- a row of factors stands for a row of coefficients
pub row_stands : (width : Width) (before : Form) (row : List ℚ) (factors : List ℤ) (extent : Extent) (values : Values) (numbers : ℕ → ℤ)
    → IsRow width before row factors extent
    → ((j : ℕ) → j < before.count → Stands (fraction values j) (numbers j) (denominator before j)) → IsInside before numbers
    → Stands (row_value row values) (row_sum factors numbers 4) (unsigned_abs extent.denominator)
unfolding with_product
row_stands width before row factors extent values numbers is stands inside =
    let d = unsigned_abs extent.denominator in
    let term : (j : ℕ) → j < 4 → Stands (product row values j) (factor factors j *ℤ numbers j) d =
    λ j small. term_stands before (fraction_in row j) (fraction values j) (factor factors j) (numbers j) extent j is.positive (stands j)
    (inside j) (is.terms j small) in
    let constant : Stands (fraction_in row 4) (factor factors 4) d =
    change (fraction_in row 4) (fraction_in row 4).numerator (factor factors 4) (fraction_in row 4).denominator d
    (itself (fraction_in row 4)) is.positive (sym is.constant) in
    common_add _ _ _ _ d (common_add _ _ _ _ d (common_add _ _ _ _ d (common_add _ _ _ _ d constant (term 0 (omega arith)))
    (term 1 (omega arith))) (term 2 (omega arith))) (term 3 (omega arith))

-- a whole number stands over 1
pub widened_stands : (values : Values) (expand : Bool) (v : ℕ) → v < 4 → are_fractions values ≡ false
    → Stands (fraction (converted Rat expand values) v) (pos (number values v)) 1
widened_stands (Numbers values) expand v small kind =
    rw (four_at (λ i. nat (slice_index_or values i 0)) v (nat 0) small) (itself (nat (slice_index_or values v 0)))
widened_stands (Fractions values) expand v small kind = cc
