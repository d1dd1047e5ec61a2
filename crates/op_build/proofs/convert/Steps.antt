-- What each operation of a conversion does to four fractions.
use Rattle.std.proofs.Common.{◌≡◌, ℕ, zero, suc, ◌<◌, Bool, true, false, not, if◌then◌else◌, pos, List, [], ◌∷◌, refl, ap, ◌∙◌, arith}
use Rattle.std.proofs.lemmas.Bool.{and_parts}
use Rattle.frac_math.specs.Fraction.{ℚ, nat, ◌*ℚ◌, ◌+ℚ◌, ◌/ℚ◌, inverse, neg_ℚ}
use Rattle.frac_math.proofs.Ring.{var, num, ◌⊕◌, ◌⊖◌, ◌⊗◌, minus, ring}
use Rattle.frac_math.proofs.FractionRing.{fractions, equal_is}
use Rattle.colour_matrix.specs.declared.class.Levels.{Levels}
use Rattle.colour_matrix.specs.Matrix.{IsMatrix}
use Rattle.colour_matrix.specs.Levels.{from_code, to_code}
use Rattle.colour_matrix.specs.Values.{Values, value_at, coefficient, row_at, by_rows}
use Rattle.colour_matrix.specs.Colour.{to_rgb, from_rgb, to_rgb_rows, from_rgb_rows}
use Rattle.colour_matrix.proofs.ColourRows.{by_rows-to_rgb_rows, by_rows-from_rgb_rows}
use Rattle.pix_meaning.specs.declared.pair.Side.{Side}
use Rattle.pix_meaning.specs.Pairs.{is_rgb}
use Rattle.pix_meaning.specs.Values.{rgb_values, target_values}
use Rattle.op_list.specs.declared.op.Op.{Op}
use Rattle.op_list.specs.declared.op.Op.TheVariants.{Linear, Scale}
use Rattle.op_list.specs.declared.position.PixelPosition.{PixelPosition}
use Rattle.op_list.specs.declared.types.Stage.{Stage}
use Rattle.op_list.specs.declared.values.Values.TheVariants.{Fractions}
use Rattle.op_list.specs.Values.{four}
use Rattle.op_list.specs.Apply.{apply}
use Rattle.op_list.specs.Run.{run_from}
use Rattle.op_list.proofs.Four.{same_four}
use Rattle.pix_meaning.specs.Channels.{channel_levels}
use Rattle.op_build.specs.Recipe.{only_if, are_plain, diagonal, over_three, from_codes, to_codes}

pub same_fractions : (a b c d e f g h : ℚ) → a ≡ e → b ≡ f → c ≡ g → d ≡ h → Fractions (a ∷ b ∷ c ∷ d ∷ []) ≡ Fractions (e ∷ f ∷ g ∷ h ∷ [])
same_fractions a b c d e f g h p q r s = λ i. Fractions (p i ∷ q i ∷ r i ∷ s i ∷ [])

-- ---- rows with one coefficient

row_0 : (s k a b c d : ℚ) → k +ℚ s *ℚ a +ℚ nat 0 *ℚ b +ℚ nat 0 *ℚ c +ℚ nat 0 *ℚ d ≡ s *ℚ a +ℚ k
row_0 s k a b c d =
    let o = num (pos 0) in
    ring fractions (s ∷ k ∷ a ∷ b ∷ c ∷ d ∷ []) (var 1 ⊕ var 0 ⊗ var 2 ⊕ o ⊗ var 3 ⊕ o ⊗ var 4 ⊕ o ⊗ var 5) (var 0 ⊗ var 2 ⊕ var 1) refl

row_1 : (s k a b c d : ℚ) → k +ℚ nat 0 *ℚ a +ℚ s *ℚ b +ℚ nat 0 *ℚ c +ℚ nat 0 *ℚ d ≡ s *ℚ b +ℚ k
row_1 s k a b c d =
    let o = num (pos 0) in
    ring fractions (s ∷ k ∷ a ∷ b ∷ c ∷ d ∷ []) (var 1 ⊕ o ⊗ var 2 ⊕ var 0 ⊗ var 3 ⊕ o ⊗ var 4 ⊕ o ⊗ var 5) (var 0 ⊗ var 3 ⊕ var 1) refl

row_2 : (s k a b c d : ℚ) → k +ℚ nat 0 *ℚ a +ℚ nat 0 *ℚ b +ℚ s *ℚ c +ℚ nat 0 *ℚ d ≡ s *ℚ c +ℚ k
row_2 s k a b c d =
    let o = num (pos 0) in
    ring fractions (s ∷ k ∷ a ∷ b ∷ c ∷ d ∷ []) (var 1 ⊕ o ⊗ var 2 ⊕ o ⊗ var 3 ⊕ var 0 ⊗ var 4 ⊕ o ⊗ var 5) (var 0 ⊗ var 4 ⊕ var 1) refl

row_3 : (s k a b c d : ℚ) → k +ℚ nat 0 *ℚ a +ℚ nat 0 *ℚ b +ℚ nat 0 *ℚ c +ℚ s *ℚ d ≡ s *ℚ d +ℚ k
row_3 s k a b c d =
    let o = num (pos 0) in
    ring fractions (s ∷ k ∷ a ∷ b ∷ c ∷ d ∷ []) (var 1 ⊕ o ⊗ var 2 ⊕ o ⊗ var 3 ⊕ o ⊗ var 4 ⊕ var 0 ⊗ var 5) (var 0 ⊗ var 5 ⊕ var 1) refl

diagonal_applied : (frame : List ℕ) (position : PixelPosition) (stage : Stage) (scale constant f : ℕ → ℚ)
    → apply frame position stage (Linear (diagonal scale constant)) (Fractions (four f))
    ≡ Fractions (four (λ c. scale c *ℚ f c +ℚ constant c))
unfolding apply
diagonal_applied frame position stage scale constant f =
    same_fractions _ _ _ _ _ _ _ _
    (row_0 (scale 0) (constant 0) (f 0) (f 1) (f 2) (f 3))
    (row_1 (scale 1) (constant 1) (f 0) (f 1) (f 2) (f 3))
    (row_2 (scale 2) (constant 2) (f 0) (f 1) (f 2) (f 3))
    (row_3 (scale 3) (constant 3) (f 0) (f 1) (f 2) (f 3))

-- ---- levels of one scale without bases

record IsPlain (l : ℕ → Levels) : Type 0 where
  scale : (c : ℕ) → c < 4 → (l c).scale ≡ (l 0).scale
  base : (c : ℕ) → c < 4 → (l c).base ≡ nat 0

plain_is : (l : ℕ → Levels) → are_plain l ≡ true → IsPlain l
plain_is l h =
    let p6 = and_parts _ _ h in let p5 = and_parts _ _ p6.0 in let p4 = and_parts _ _ p5.0 in
    let p3 = and_parts _ _ p4.0 in let p2 = and_parts _ _ p3.0 in let p1 = and_parts _ _ p2.0 in
    record {
      scale = for_four (λ c. (l c).scale ≡ (l 0).scale) refl (equal_is _ _ p1.0) (equal_is _ _ p1.1) (equal_is _ _ p2.1);
      base = for_four (λ c. (l c).base ≡ nat 0) (equal_is _ _ p3.1) (equal_is _ _ p4.1) (equal_is _ _ p5.1) (equal_is _ _ p6.1);
    }
  where
    for_four : (P : ℕ → Type 0) → P 0 → P 1 → P 2 → P 3 → (c : ℕ) → c < 4 → P c
    for_four P a b d e zero below = a
    for_four P a b d e (suc zero) below = b
    for_four P a b d e (suc (suc zero)) below = d
    for_four P a b d e (suc (suc (suc zero))) below = e
    for_four P a b d e (suc (suc (suc (suc c)))) below = absurd (omega arith)

-- ---- one multiple and one constant for each value, by whichever operation

-- all four multiples are the first, and all constants are 0
record IsScale (scale constant : ℕ → ℚ) : Type 0 where
  multiple : (c : ℕ) → c < 4 → scale c ≡ scale 0
  none : (c : ℕ) → c < 4 → constant c ≡ nat 0

abbrev affine : Bool → (ℕ → ℚ) → (ℕ → ℚ) → Op
affine plain scale constant = if plain then Scale (scale 0) else Linear (diagonal scale constant)

scaled : (scale constant f : ℕ → ℚ) (c : ℕ) → IsScale scale constant → c < 4 → f c *ℚ scale 0 ≡ scale c *ℚ f c +ℚ constant c
scaled scale constant f c is below =
    rw (is.multiple c below, is.none c below)
    (ring fractions (f c ∷ scale 0 ∷ []) (var 0 ⊗ var 1) (var 1 ⊗ var 0 ⊕ num (pos 0)) refl)

affine_applied : (frame : List ℕ) (position : PixelPosition) (stage : Stage) (plain : Bool) (scale constant f : ℕ → ℚ)
    → (plain ≡ true → IsScale scale constant)
    → apply frame position stage (affine plain scale constant) (Fractions (four f)) ≡ Fractions (four (λ c. scale c *ℚ f c +ℚ constant c))
unfolding apply
affine_applied frame position stage true scale constant f is =
    ap Fractions (same_four (λ c. f c *ℚ scale 0) (λ c. scale c *ℚ f c +ℚ constant c)
    (λ c below. scaled scale constant f c (is refl) below))
affine_applied frame position stage false scale constant f is = diagonal_applied frame position stage scale constant f

-- ---- from codes to values, and back

from_scale : (l : ℕ → Levels) → IsPlain l → IsScale (λ c. nat 1 /ℚ (l c).scale) (λ c. neg_ℚ (l c).base /ℚ (l c).scale)
from_scale l is = record {
  multiple = λ c below. ap (λ s. nat 1 /ℚ s) (is.scale c below);
  none =
      λ c below. ap (λ b. neg_ℚ b /ℚ (l c).scale) (is.base c below)
      ∙ ring fractions (inverse (l c).scale ∷ []) (minus (num (pos 0)) ⊗ var 0) (num (pos 0)) refl;
}

linear_from : (l : Levels) (x : ℚ) → nat 1 /ℚ l.scale *ℚ x +ℚ neg_ℚ l.base /ℚ l.scale ≡ from_code l x
unfolding from_code
linear_from l x =
    ring fractions (x ∷ l.base ∷ inverse l.scale ∷ []) (num (pos 1) ⊗ var 2 ⊗ var 0 ⊕ minus (var 1) ⊗ var 2) ((var 0 ⊖ var 1) ⊗ var 2) refl

pub from_codes-applied : (frame : List ℕ) (position : PixelPosition) (stage : Stage) (side : Side) (f : ℕ → ℚ)
    → apply frame position stage (from_codes side) (Fractions (four f)) ≡ Fractions (four (λ c. from_code (channel_levels side c) (f c)))
unfolding from_codes
from_codes-applied frame position stage side f =
    let l = channel_levels side in
    affine_applied frame position stage (are_plain l) (λ c. nat 1 /ℚ (l c).scale) (λ c. neg_ℚ (l c).base /ℚ (l c).scale) f
    (λ plain. from_scale l (plain_is l plain))
    ∙ ap Fractions (same_four (λ c. nat 1 /ℚ (l c).scale *ℚ f c +ℚ neg_ℚ (l c).base /ℚ (l c).scale) (λ c. from_code (l c) (f c))
    (λ c below. linear_from (l c) (f c)))

pub to_codes-applied : (frame : List ℕ) (position : PixelPosition) (stage : Stage) (side : Side) (f : ℕ → ℚ)
    → apply frame position stage (to_codes side) (Fractions (four f)) ≡ Fractions (four (λ c. to_code (channel_levels side c) (f c)))
unfolding to_codes to_code
to_codes-applied frame position stage side f =
    let l = channel_levels side in
    affine_applied frame position stage (are_plain l) (λ c. (l c).scale) (λ c. (l c).base) f
    (λ plain. let is = plain_is l plain in record { multiple = is.scale; none = is.base })

-- ---- rows over the first three values

three_of_four : (a b c x y z w : ℚ) → nat 0 +ℚ a *ℚ x +ℚ b *ℚ y +ℚ c *ℚ z +ℚ nat 0 *ℚ w ≡ a *ℚ x +ℚ b *ℚ y +ℚ c *ℚ z
three_of_four a b c x y z w =
    let o = num (pos 0) in
    ring fractions (a ∷ b ∷ c ∷ x ∷ y ∷ z ∷ w ∷ []) (o ⊕ var 0 ⊗ var 3 ⊕ var 1 ⊗ var 4 ⊕ var 2 ⊗ var 5 ⊕ o ⊗ var 6)
    (var 0 ⊗ var 3 ⊕ var 1 ⊗ var 4 ⊕ var 2 ⊗ var 5) refl

fourth_alone : (x y z w : ℚ) → nat 0 +ℚ nat 0 *ℚ x +ℚ nat 0 *ℚ y +ℚ nat 0 *ℚ z +ℚ nat 1 *ℚ w ≡ w
fourth_alone x y z w =
    let o = num (pos 0) in
    ring fractions (x ∷ y ∷ z ∷ w ∷ []) (o ⊕ o ⊗ var 0 ⊕ o ⊗ var 1 ⊕ o ⊗ var 2 ⊕ num (pos 1) ⊗ var 3) (var 3) refl

pub over_three-applied : (frame : List ℕ) (position : PixelPosition) (stage : Stage) (rows : List (List ℚ)) (e : Values)
    → apply frame position stage (Linear (over_three rows)) (Fractions (four (value_at e))) ≡ Fractions (four (value_at (by_rows rows e)))
unfolding apply
over_three-applied frame position stage rows e =
    let row = λ (i : ℕ).
    three_of_four (coefficient (row_at rows i) 0) (coefficient (row_at rows i) 1)
    (coefficient (row_at rows i) 2) e.first e.second e.third e.fourth in
    same_fractions _ _ _ _ _ _ _ _ (row 0) (row 1) (row 2) (fourth_alone e.first e.second e.third e.fourth)

pub to_rgb-run : (frame : List ℕ) (position : PixelPosition) (stage : Stage) (side : Side) (e : Values)
    → run_from frame position stage (only_if (not (is_rgb side.desc)) (Linear (over_three (to_rgb_rows side.matrix))))
    (Fractions (four (value_at e)))
    ≡ Fractions (four (value_at (rgb_values side e)))
unfolding run_from rgb_values
to_rgb-run frame position stage side e =
    elim (is_rgb side.desc) as
    (λ b. run_from frame position stage (only_if (not b) (Linear (over_three (to_rgb_rows side.matrix)))) (Fractions (four (value_at e)))
    ≡ Fractions (four (value_at (if b then e else to_rgb side.matrix e)))) [
      | true ↦ refl
      | false ↦ over_three-applied frame position stage (to_rgb_rows side.matrix) e
          ∙ ap (λ v. Fractions (four (value_at v))) (by_rows-to_rgb_rows side.matrix e)
    ]

pub from_rgb-run : (frame : List ℕ) (position : PixelPosition) (stage : Stage) (side : Side) (e : Values) → IsMatrix side.matrix
    → run_from frame position stage (only_if (not (is_rgb side.desc)) (Linear (over_three (from_rgb_rows side.matrix))))
    (Fractions (four (value_at e)))
    ≡ Fractions (four (value_at (target_values side e)))
unfolding run_from target_values
from_rgb-run frame position stage side e matrix =
    elim (is_rgb side.desc) as
    (λ b. run_from frame position stage (only_if (not b) (Linear (over_three (from_rgb_rows side.matrix)))) (Fractions (four (value_at e)))
    ≡ Fractions (four (value_at (if b then e else from_rgb side.matrix e)))) [
      | true ↦ refl
      | false ↦ over_three-applied frame position stage (from_rgb_rows side.matrix) e
          ∙ ap (λ v. Fractions (four (value_at v))) (by_rows-from_rgb_rows side.matrix e matrix)
    ]
