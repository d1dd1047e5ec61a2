-- The rows of coefficients do the same as the equations, and each coefficient is a fraction of two whole numbers.
use Rattle.std.proofs.Common.{◌≡◌, [], ◌∷◌, pos, refl, ◌∙◌, ap, arith}
use Rattle.frac_math.specs.Fraction.{ℚ, nat, ◌+ℚ◌, ◌*ℚ◌, ◌-ℚ◌, inverse, neg_ℚ}
use Rattle.frac_math.proofs.Ring.{var, num, ◌⊕◌, ◌⊖◌, ◌⊗◌, minus, ring, ring_from, done, by}
use Rattle.frac_math.proofs.FractionRing.{fractions, add_assoc, add_reversed}
use Rattle.frac_math.proofs.Naturals.{inverse_of}
use Rattle.colour_matrix.specs.Matrix.{IsMatrix}
use Rattle.colour_matrix.specs.Values.{Values, by_rows, product, identity}
use Rattle.colour_matrix.specs.Colour.{green_of, to_rgb, from_rgb, to_rgb_rows, from_rgb_rows}
use Rattle.colour_matrix.specs.declared.matrix.Matrix.{Matrix}
use Rattle.colour_matrix.proofs.Rows.{same_values, product_is}
use Rattle.colour_matrix.proofs.Parts.{inverses}
use Rattle.colour_matrix.proofs.ColourLaws.{from_rgb-to_rgb, to_rgb-from_rgb}

-- one coefficient beside luma's 1
of_third : (y u t c : ℚ) → nat 1 *ℚ y +ℚ nat 0 *ℚ u +ℚ c *ℚ t ≡ y +ℚ c *ℚ t
of_third y u t c = ring fractions (y ∷ u ∷ t ∷ c ∷ []) (num (pos 1) ⊗ var 0 ⊕ num (pos 0) ⊗ var 1 ⊕ var 3 ⊗ var 2)
    (var 0 ⊕ var 3 ⊗ var 2) refl

of_second : (y u t c : ℚ) → nat 1 *ℚ y +ℚ c *ℚ u +ℚ nat 0 *ℚ t ≡ y +ℚ c *ℚ u
of_second y u t c = ring fractions (y ∷ u ∷ t ∷ c ∷ []) (num (pos 1) ⊗ var 0 ⊕ var 3 ⊗ var 1 ⊕ num (pos 0) ⊗ var 2)
    (var 0 ⊕ var 3 ⊗ var 1) refl

of_both : (y u t c d : ℚ) → nat 1 *ℚ y +ℚ neg_ℚ c *ℚ u +ℚ neg_ℚ d *ℚ t ≡ y -ℚ c *ℚ u -ℚ d *ℚ t
of_both y u t c d =
    ring fractions (y ∷ u ∷ t ∷ c ∷ d ∷ []) (num (pos 1) ⊗ var 0 ⊕ minus (var 3) ⊗ var 1 ⊕ minus (var 4) ⊗ var 2)
    (var 0 ⊖ var 3 ⊗ var 1 ⊖ var 4 ⊗ var 2) refl

pub by_rows-to_rgb_rows : (m : Matrix) (e : Values) → by_rows (to_rgb_rows m) e ≡ to_rgb m e
unfolding to_rgb to_rgb_rows
by_rows-to_rgb_rows m e = same_values _ _ (of_third _ _ _ _) (of_both _ _ _ _ _) (of_second _ _ _ _) refl

luma_row : (r g b iq red green blue : ℚ)
    → r *ℚ iq *ℚ red +ℚ g *ℚ iq *ℚ green +ℚ b *ℚ iq *ℚ blue ≡ (r *ℚ red +ℚ g *ℚ green +ℚ b *ℚ blue) *ℚ iq
luma_row r g b iq red green blue =
    ring fractions (r ∷ g ∷ b ∷ iq ∷ red ∷ green ∷ blue ∷ []) (var 0 ⊗ var 3 ⊗ var 4 ⊕ var 1 ⊗ var 3 ⊗ var 5 ⊕ var 2 ⊗ var 3 ⊗ var 6)
    ((var 0 ⊗ var 4 ⊕ var 1 ⊗ var 5 ⊕ var 2 ⊗ var 6) ⊗ var 3) refl

-- the chroma of a colour x with the share s, beside the other two; `half` is 1/2, id is 1/(2 (q - s))
chroma_row : (q s o g x other green iq id half : ℚ) → q *ℚ iq ≡ nat 1 → nat 2 *ℚ (q -ℚ s) *ℚ id ≡ nat 1 → nat 2 *ℚ half ≡ nat 1
    → nat 1 *ℚ half *ℚ x +ℚ (neg_ℚ (g *ℚ id) *ℚ green +ℚ neg_ℚ (o *ℚ id) *ℚ other)
    ≡ (x -ℚ (s *ℚ x +ℚ g *ℚ green +ℚ o *ℚ other) *ℚ iq) *ℚ q *ℚ id
chroma_row q s o g x other green iq id half h hd hh =
    let Q = var 0 in let S = var 1 in let O = var 2 in let G = var 3 in let X = var 4 in let OTHER = var 5 in let GREEN = var 6 in
    let IQ = var 7 in let ID = var 8 in let HALF = var 9 in
    let SUM = S ⊗ X ⊕ G ⊗ GREEN ⊕ O ⊗ OTHER in
    ring_from fractions (q ∷ s ∷ o ∷ g ∷ x ∷ other ∷ green ∷ iq ∷ id ∷ half ∷ [])
    (num (pos 1) ⊗ HALF ⊗ X ⊕ (minus (G ⊗ ID) ⊗ GREEN ⊕ minus (O ⊗ ID) ⊗ OTHER))
    ((X ⊖ SUM ⊗ IQ) ⊗ Q ⊗ ID)
    (by (SUM ⊗ ID) (Q ⊗ IQ) (num (pos 1))
    (by (minus (X ⊗ HALF)) (num (pos 2) ⊗ (Q ⊖ S) ⊗ ID) (num (pos 1))
    (by (X ⊗ (Q ⊖ S) ⊗ ID) (num (pos 2) ⊗ HALF) (num (pos 1)) done)))
    (h, (hd, (hh, tt))) refl

-- `chroma_row` has the product of the row's own colour first, where the row U and luma have it last
pub by_rows-from_rgb_rows : (m : Matrix) (c : Values) → IsMatrix m → by_rows (from_rgb_rows m) c ≡ from_rgb m c
unfolding from_rgb from_rgb_rows
by_rows-from_rgb_rows m c h =
    let i = inverses m h in
    let q = nat m.q in let r = nat m.r in let b = nat m.b in let g = green_of m in
    let id = inverse (nat 2 *ℚ (q -ℚ b)) in
    let half : nat 2 *ℚ inverse (nat 2) ≡ nat 1 = inverse_of (nat 2) 2 refl (omega arith) in
    let blue = add_reversed (neg_ℚ (r *ℚ id) *ℚ c.first) (neg_ℚ (g *ℚ id) *ℚ c.second) (nat 1 *ℚ inverse (nat 2) *ℚ c.third)
    ∙ add_assoc (nat 1 *ℚ inverse (nat 2) *ℚ c.third) (neg_ℚ (g *ℚ id) *ℚ c.second) (neg_ℚ (r *ℚ id) *ℚ c.first)
    ∙ chroma_row q b r g c.third c.first c.second (inverse q) id (inverse (nat 2)) i.of_q i.of_b half
    ∙ ap (λ y. (c.third -ℚ y *ℚ inverse q) *ℚ q *ℚ id) (add_reversed (b *ℚ c.third) (g *ℚ c.second) (r *ℚ c.first)) in
    same_values _ _ (luma_row _ _ _ _ _ _ _) blue
    (add_assoc _ _ _ ∙ chroma_row q r b g c.first c.third c.second (inverse q) (inverse (nat 2 *ℚ (q -ℚ r)))
    (inverse (nat 2)) i.of_q i.of_r half)
    refl

-- the products of the two are the identity
pub product-to_rgb_rows : (m : Matrix) → IsMatrix m → product (to_rgb_rows m) (from_rgb_rows m) ≡ identity
unfolding to_rgb_rows
product-to_rgb_rows m h =
    product_is (to_rgb_rows m) (from_rgb_rows m) refl (λ e. by_rows-to_rgb_rows m (by_rows (from_rgb_rows m) e)
    ∙ ap (to_rgb m) (by_rows-from_rgb_rows m e h) ∙ to_rgb-from_rgb m e h)

pub product-from_rgb_rows : (m : Matrix) → IsMatrix m → product (from_rgb_rows m) (to_rgb_rows m) ≡ identity
unfolding from_rgb_rows
product-from_rgb_rows m h =
    product_is (from_rgb_rows m) (to_rgb_rows m) refl (λ e. by_rows-from_rgb_rows m (by_rows (to_rgb_rows m) e) h
    ∙ ap (from_rgb m) (by_rows-to_rgb_rows m e) ∙ from_rgb-to_rgb m e h)
