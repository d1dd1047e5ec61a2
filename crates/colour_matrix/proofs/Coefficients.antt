-- Each coefficient is a fraction of two whole numbers, as the code makes it.
use Rattle.std.proofs.Common.{◌≡◌, ◌-◌, ◌*◌, [], ◌∷◌, pos, neg_ℤ, refl, ◌∙◌, arith}
use Rattle.frac_math.specs.Fraction.{ℚ, nat, over, ◌*ℚ◌, ◌-ℚ◌}
use Rattle.frac_math.proofs.Naturals.{nat-mul, over_quotient, over_negative}
use Rattle.colour_matrix.specs.Matrix.{IsMatrix}
use Rattle.colour_matrix.specs.Colour.{green_of, to_rgb_rows, from_rgb_rows}
use Rattle.colour_matrix.specs.declared.matrix.Matrix.{Matrix}
use Rattle.colour_matrix.proofs.Parts.{differences}

-- the coefficients of `to_rgb`
pub to_rgb_rows_are : (m : Matrix) (one zero red_v green_u green_v blue_u : ℚ) → IsMatrix m → one ≡ nat 1 → zero ≡ nat 0
    → red_v ≡ over (pos (2 * (m.q - m.r))) m.q
    → green_u ≡ over (neg_ℤ (pos (2 * m.b * (m.q - m.b)))) (m.q * (m.q - m.r - m.b))
    → green_v ≡ over (neg_ℤ (pos (2 * m.r * (m.q - m.r)))) (m.q * (m.q - m.r - m.b))
    → blue_u ≡ over (pos (2 * (m.q - m.b))) m.q
    → (one ∷ zero ∷ red_v ∷ []) ∷ (one ∷ green_u ∷ green_v ∷ []) ∷ (one ∷ blue_u ∷ zero ∷ []) ∷ [] ≡ to_rgb_rows m
unfolding to_rgb_rows
to_rgb_rows_are m one zero red_v green_u green_v blue_u h one_is zero_is red_v_is green_u_is green_v_is blue_u_is =
    let d = differences m h in
    let q = nat m.q in let r = nat m.r in let b = nat m.b in
    let qg = nat-mul q (green_of m) m.q (m.q - m.r - m.b) refl d.green in
    let rv = red_v_is ∙ over_quotient (nat 2 *ℚ (q -ℚ r)) q (2 * (m.q - m.r)) m.q d.parts
    (nat-mul (nat 2) (q -ℚ r) 2 (m.q - m.r) refl d.red) refl in
    let gu = green_u_is ∙ over_negative (nat 2 *ℚ b *ℚ (q -ℚ b)) (q *ℚ green_of m) (2 * m.b * (m.q - m.b))
    (m.q * (m.q - m.r - m.b)) d.times_green
    (nat-mul (nat 2 *ℚ b) (q -ℚ b) (2 * m.b) (m.q - m.b) (nat-mul (nat 2) b 2 m.b refl refl) d.blue) qg in
    let gv = green_v_is ∙ over_negative (nat 2 *ℚ r *ℚ (q -ℚ r)) (q *ℚ green_of m) (2 * m.r * (m.q - m.r))
    (m.q * (m.q - m.r - m.b)) d.times_green
    (nat-mul (nat 2 *ℚ r) (q -ℚ r) (2 * m.r) (m.q - m.r) (nat-mul (nat 2) r 2 m.r refl refl) d.red) qg in
    let bu = blue_u_is ∙ over_quotient (nat 2 *ℚ (q -ℚ b)) q (2 * (m.q - m.b)) m.q d.parts
    (nat-mul (nat 2) (q -ℚ b) 2 (m.q - m.b) refl d.blue) refl in
    λ i. (one_is i ∷ zero_is i ∷ rv i ∷ []) ∷ (one_is i ∷ gu i ∷ gv i ∷ []) ∷ (one_is i ∷ bu i ∷ zero_is i ∷ []) ∷ []

-- the coefficients of `from_rgb`
pub from_rgb_rows_are : (m : Matrix) (half luma_r luma_g luma_b blue_r blue_g red_g red_b : ℚ) → IsMatrix m → half ≡ over (pos 1) 2
    → luma_r ≡ over (pos m.r) m.q
    → luma_g ≡ over (pos (m.q - m.r - m.b)) m.q
    → luma_b ≡ over (pos m.b) m.q
    → blue_r ≡ over (neg_ℤ (pos m.r)) (2 * (m.q - m.b))
    → blue_g ≡ over (neg_ℤ (pos (m.q - m.r - m.b))) (2 * (m.q - m.b))
    → red_g ≡ over (neg_ℤ (pos (m.q - m.r - m.b))) (2 * (m.q - m.r))
    → red_b ≡ over (neg_ℤ (pos m.b)) (2 * (m.q - m.r))
    → (luma_r ∷ luma_g ∷ luma_b ∷ []) ∷ (blue_r ∷ blue_g ∷ half ∷ []) ∷ (half ∷ red_g ∷ red_b ∷ []) ∷ [] ≡ from_rgb_rows m
unfolding from_rgb_rows
from_rgb_rows_are m half luma_r luma_g luma_b blue_r blue_g red_g red_b h half_is luma_r_is luma_g_is luma_b_is blue_r_is blue_g_is red_g_is
    red_b_is =
    let d = differences m h in
    let q = nat m.q in let r = nat m.r in let b = nat m.b in let g = green_of m in
    let g' = m.q - m.r - m.b in
    let two_blue = nat-mul (nat 2) (q -ℚ b) 2 (m.q - m.b) refl d.blue in
    let two_red = nat-mul (nat 2) (q -ℚ r) 2 (m.q - m.r) refl d.red in
    let ha = half_is ∙ over_quotient (nat 1) (nat 2) 1 2 (omega arith) refl refl in
    let yr = luma_r_is ∙ over_quotient r q m.r m.q d.parts refl refl in
    let yg = luma_g_is ∙ over_quotient g q g' m.q d.parts d.green refl in
    let yb = luma_b_is ∙ over_quotient b q m.b m.q d.parts refl refl in
    let ur = blue_r_is ∙ over_negative r (nat 2 *ℚ (q -ℚ b)) m.r (2 * (m.q - m.b)) d.twice_blue refl two_blue in
    let ug = blue_g_is ∙ over_negative g (nat 2 *ℚ (q -ℚ b)) g' (2 * (m.q - m.b)) d.twice_blue d.green two_blue in
    let vg = red_g_is ∙ over_negative g (nat 2 *ℚ (q -ℚ r)) g' (2 * (m.q - m.r)) d.twice_red d.green two_red in
    let vb = red_b_is ∙ over_negative b (nat 2 *ℚ (q -ℚ r)) m.b (2 * (m.q - m.r)) d.twice_red refl two_red in
    λ i. (yr i ∷ yg i ∷ yb i ∷ []) ∷ (ur i ∷ ug i ∷ ha i ∷ []) ∷ (ha i ∷ vg i ∷ vb i ∷ []) ∷ []
