-- From luma and chroma to red, green and blue, and back, by ITU-T H.273 section 8.3, "Matrix coefficients".
use Rattle.std.specs.Prelude.{List, [], ◌∷◌}
use Rattle.frac_math.specs.Fraction.{ℚ, nat, ◌*ℚ◌, ◌+ℚ◌, ◌-ℚ◌, ◌/ℚ◌, neg_ℚ}
use Rattle.colour_matrix.specs.Values.{Values}
use Rattle.colour_matrix.specs.declared.matrix.Matrix.{Matrix}

-- the parts of green: what red and blue leave of all
abbrev pub green_of : Matrix → ℚ
green_of m = nat m.q -ℚ nat m.r -ℚ nat m.b

-- Y = K_R R + (1 - K_R - K_B) G + K_B B, then U = (B - Y)/(2 (1 - K_B)) and V = (R - Y)/(2 (1 - K_R))
unfoldable pub from_rgb : Matrix → Values → Values
from_rgb m c =
    let q = nat m.q in
    let r = nat m.r in
    let b = nat m.b in
    let y = (r *ℚ c.first +ℚ green_of m *ℚ c.second +ℚ b *ℚ c.third) /ℚ q in
    record {
      first = y;
      second = (c.third -ℚ y) *ℚ q /ℚ (nat 2 *ℚ (q -ℚ b));
      third = (c.first -ℚ y) *ℚ q /ℚ (nat 2 *ℚ (q -ℚ r));
      fourth = c.fourth;
    }

-- the same equations, solved for R, G and B
unfoldable pub to_rgb : Matrix → Values → Values
to_rgb m e =
    let q = nat m.q in
    let r = nat m.r in
    let b = nat m.b in
    let g = green_of m in
    record {
      first = e.first +ℚ nat 2 *ℚ (q -ℚ r) /ℚ q *ℚ e.third;
      second = e.first -ℚ nat 2 *ℚ b *ℚ (q -ℚ b) /ℚ (q *ℚ g) *ℚ e.second -ℚ nat 2 *ℚ r *ℚ (q -ℚ r) /ℚ (q *ℚ g) *ℚ e.third;
      third = e.first +ℚ nat 2 *ℚ (q -ℚ b) /ℚ q *ℚ e.second;
      fourth = e.fourth;
    }

-- the coefficients of `to_rgb`: rows R, G, B over Y, U, V
unfoldable pub to_rgb_rows : Matrix → List (List ℚ)
to_rgb_rows m =
    let q = nat m.q in
    let r = nat m.r in
    let b = nat m.b in
    let g = green_of m in
    (nat 1 ∷ nat 0 ∷ (nat 2 *ℚ (q -ℚ r) /ℚ q) ∷ []) ∷
    (nat 1 ∷ neg_ℚ (nat 2 *ℚ b *ℚ (q -ℚ b) /ℚ (q *ℚ g)) ∷ neg_ℚ (nat 2 *ℚ r *ℚ (q -ℚ r) /ℚ (q *ℚ g)) ∷ []) ∷
    (nat 1 ∷ (nat 2 *ℚ (q -ℚ b) /ℚ q) ∷ nat 0 ∷ []) ∷ []

-- the coefficients of `from_rgb`: rows Y, U, V over R, G, B
unfoldable pub from_rgb_rows : Matrix → List (List ℚ)
from_rgb_rows m =
    let q = nat m.q in
    let r = nat m.r in
    let b = nat m.b in
    let g = green_of m in
    ((r /ℚ q) ∷ (g /ℚ q) ∷ (b /ℚ q) ∷ []) ∷
    (neg_ℚ (r /ℚ (nat 2 *ℚ (q -ℚ b))) ∷ neg_ℚ (g /ℚ (nat 2 *ℚ (q -ℚ b))) ∷ (nat 1 /ℚ nat 2) ∷ []) ∷
    ((nat 1 /ℚ nat 2) ∷ neg_ℚ (g /ℚ (nat 2 *ℚ (q -ℚ r))) ∷ neg_ℚ (b /ℚ (nat 2 *ℚ (q -ℚ r))) ∷ []) ∷ []
