-- To RGB and from RGB undo each other, and the rows of coefficients do the same as the equations.
use Rattle.std.proofs.Common.{◌≡◌, [], ◌∷◌, pos, refl}
use Rattle.frac_math.specs.Fraction.{ℚ, nat, ◌+ℚ◌, ◌*ℚ◌, ◌-ℚ◌, inverse}
use Rattle.frac_math.proofs.Ring.{var, num, ◌⊕◌, ◌⊖◌, ◌⊗◌, minus, ring_from, done, by}
use Rattle.frac_math.proofs.FractionRing.{fractions}
use Rattle.colour_matrix.specs.Matrix.{IsMatrix}
use Rattle.colour_matrix.specs.Values.{Values}
use Rattle.colour_matrix.specs.Colour.{green_of, to_rgb, from_rgb}
use Rattle.colour_matrix.specs.declared.matrix.Matrix.{Matrix}
use Rattle.colour_matrix.proofs.Parts.{inverses}
use Rattle.colour_matrix.proofs.Rows.{same_values}

-- over any fractions q, r, b and values, where each name with an i before it is the inverse: iq of q, iqg of q g
luma_back : (q r b y u t iq iqg : ℚ) → q *ℚ iq ≡ nat 1 → q *ℚ (q -ℚ r -ℚ b) *ℚ iqg ≡ nat 1
    → (r *ℚ (y +ℚ nat 2 *ℚ (q -ℚ r) *ℚ iq *ℚ t)
    +ℚ (q -ℚ r -ℚ b) *ℚ (y -ℚ nat 2 *ℚ b *ℚ (q -ℚ b) *ℚ iqg *ℚ u -ℚ nat 2 *ℚ r *ℚ (q -ℚ r) *ℚ iqg *ℚ t)
    +ℚ b *ℚ (y +ℚ nat 2 *ℚ (q -ℚ b) *ℚ iq *ℚ u)) *ℚ iq ≡ y
luma_back q r b y u t iq iqg h g =
    let Q = var 0 in let R = var 1 in let B = var 2 in let Y = var 3 in let U = var 4 in let T = var 5 in
    let IQ = var 6 in let IQG = var 7 in
    let G = Q ⊖ R ⊖ B in
    let W = num (pos 2) ⊗ R ⊗ (Q ⊖ R) ⊗ T ⊕ num (pos 2) ⊗ B ⊗ (Q ⊖ B) ⊗ U in
    ring_from fractions (q ∷ r ∷ b ∷ y ∷ u ∷ t ∷ iq ∷ iqg ∷ [])
    ((R ⊗ (Y ⊕ num (pos 2) ⊗ (Q ⊖ R) ⊗ IQ ⊗ T) ⊕ G ⊗ (Y ⊖ num (pos 2) ⊗ B ⊗ (Q ⊖ B) ⊗ IQG ⊗ U ⊖ num (pos 2) ⊗ R ⊗ (Q ⊖ R) ⊗ IQG ⊗ T) ⊕ B ⊗
    (Y ⊕ num (pos 2) ⊗ (Q ⊖ B) ⊗ IQ ⊗ U)) ⊗ IQ)
    Y
    (by (Y ⊕ G ⊗ IQG ⊗ IQ ⊗ W) (Q ⊗ IQ) (num (pos 1)) (by (minus (IQ ⊗ W ⊗ IQ)) (Q ⊗ G ⊗ IQG) (num (pos 1)) done))
    (h, (g, tt)) refl

-- y and what is added to it
chroma_back : (q y d u iq id : ℚ) → q *ℚ iq ≡ nat 1 → nat 2 *ℚ d *ℚ id ≡ nat 1 → (y +ℚ nat 2 *ℚ d *ℚ iq *ℚ u -ℚ y) *ℚ q *ℚ id ≡ u
chroma_back q y d u iq id h g =
    ring_from fractions (q ∷ y ∷ d ∷ u ∷ iq ∷ id ∷ []) ((var 1 ⊕ num (pos 2) ⊗ var 2 ⊗ var 4 ⊗ var 3 ⊖ var 1) ⊗ var 0 ⊗ var 5) (var 3)
    (by (num (pos 2) ⊗ var 2 ⊗ var 5 ⊗ var 3) (var 0 ⊗ var 4) (num (pos 1)) (by (var 3) (num (pos 2) ⊗ var 2 ⊗ var 5) (num (pos 1)) done))
    (h, (g, tt)) refl

direct_back : (q y d c iq id : ℚ) → q *ℚ iq ≡ nat 1 → nat 2 *ℚ d *ℚ id ≡ nat 1 → y +ℚ nat 2 *ℚ d *ℚ iq *ℚ ((c -ℚ y) *ℚ q *ℚ id) ≡ c
direct_back q y d c iq id h g =
    ring_from fractions (q ∷ y ∷ d ∷ c ∷ iq ∷ id ∷ []) (var 1 ⊕ num (pos 2) ⊗ var 2 ⊗ var 4 ⊗ ((var 3 ⊖ var 1) ⊗ var 0 ⊗ var 5)) (var 3)
    (by (num (pos 2) ⊗ var 2 ⊗ (var 3 ⊖ var 1) ⊗ var 5) (var 0 ⊗ var 4) (num (pos 1))
    (by (var 3 ⊖ var 1) (num (pos 2) ⊗ var 2 ⊗ var 5) (num (pos 1)) done)) (h, (g, tt)) refl

green_back : (q r b red green blue y iqg ir ib : ℚ) → q *ℚ (q -ℚ r -ℚ b) *ℚ iqg ≡ nat 1 → nat 2 *ℚ (q -ℚ r) *ℚ ir ≡ nat 1
    → nat 2 *ℚ (q -ℚ b) *ℚ ib ≡ nat 1
    → r *ℚ red +ℚ (q -ℚ r -ℚ b) *ℚ green +ℚ b *ℚ blue ≡ q *ℚ y
    → y -ℚ nat 2 *ℚ b *ℚ (q -ℚ b) *ℚ iqg *ℚ ((blue -ℚ y) *ℚ q *ℚ ib) -ℚ nat 2 *ℚ r *ℚ (q -ℚ r) *ℚ iqg *ℚ ((red -ℚ y) *ℚ q *ℚ ir) ≡ green
green_back q r b red green blue y iqg ir ib h hr hb s =
    let Q = var 0 in let R = var 1 in let B = var 2 in let RED = var 3 in let GREEN = var 4 in let BLUE = var 5 in let Y = var 6 in
    let IQG = var 7 in let IR = var 8 in let IB = var 9 in
    let G = Q ⊖ R ⊖ B in
    ring_from fractions (q ∷ r ∷ b ∷ red ∷ green ∷ blue ∷ y ∷ iqg ∷ ir ∷ ib ∷ [])
    (Y ⊖ num (pos 2) ⊗ B ⊗ (Q ⊖ B) ⊗ IQG ⊗ ((BLUE ⊖ Y) ⊗ Q ⊗ IB) ⊖ num (pos 2) ⊗ R ⊗ (Q ⊖ R) ⊗ IQG ⊗ ((RED ⊖ Y) ⊗ Q ⊗ IR)) GREEN
    (by (minus (Y ⊖ GREEN)) (Q ⊗ G ⊗ IQG) (num (pos 1))
    (by (minus (R ⊗ (RED ⊖ Y) ⊗ Q ⊗ IQG)) (num (pos 2) ⊗ (Q ⊖ R) ⊗ IR) (num (pos 1))
    (by (minus (B ⊗ (BLUE ⊖ Y) ⊗ Q ⊗ IQG)) (num (pos 2) ⊗ (Q ⊖ B) ⊗ IB) (num (pos 1))
    (by (minus (Q ⊗ IQG)) (R ⊗ RED ⊕ G ⊗ GREEN ⊕ B ⊗ BLUE) (Q ⊗ Y) done))))
    (h, (hr, (hb, (s, tt)))) refl

pub from_rgb-to_rgb : (m : Matrix) (e : Values) → IsMatrix m → from_rgb m (to_rgb m e) ≡ e
unfolding from_rgb to_rgb
from_rgb-to_rgb m e h =
    let i = inverses m h in
    let luma = luma_back (nat m.q) (nat m.r) (nat m.b) e.first e.second e.third (inverse (nat m.q))
    (inverse (nat m.q *ℚ green_of m)) i.of_q i.of_qg in
    same_values _ _ luma
    (rw luma (chroma_back (nat m.q) e.first (nat m.q -ℚ nat m.b) e.second (inverse (nat m.q))
    (inverse (nat 2 *ℚ (nat m.q -ℚ nat m.b))) i.of_q i.of_b))
    (rw luma (chroma_back (nat m.q) e.first (nat m.q -ℚ nat m.r) e.third (inverse (nat m.q))
    (inverse (nat 2 *ℚ (nat m.q -ℚ nat m.r))) i.of_q i.of_r))
    refl

pub to_rgb-from_rgb : (m : Matrix) (c : Values) → IsMatrix m → to_rgb m (from_rgb m c) ≡ c
unfolding from_rgb to_rgb
to_rgb-from_rgb m c h =
    let i = inverses m h in
    let q = nat m.q in let r = nat m.r in let b = nat m.b in
    let sum = r *ℚ c.first +ℚ green_of m *ℚ c.second +ℚ b *ℚ c.third in
    let y = sum *ℚ inverse q in
    let s : sum ≡ q *ℚ y = ring_from fractions (sum ∷ q ∷ inverse q ∷ []) (var 0) (var 1 ⊗ (var 0 ⊗ var 2))
    (by (minus (var 0)) (var 1 ⊗ var 2) (num (pos 1)) done) (i.of_q, tt) refl in
    same_values _ _
    (direct_back q y (q -ℚ r) c.first (inverse q) (inverse (nat 2 *ℚ (q -ℚ r))) i.of_q i.of_r)
    (green_back q r b c.first c.second c.third y (inverse (q *ℚ green_of m)) (inverse (nat 2 *ℚ (q -ℚ r)))
    (inverse (nat 2 *ℚ (q -ℚ b))) i.of_qg i.of_r i.of_b s)
    (direct_back q y (q -ℚ b) c.third (inverse q) (inverse (nat 2 *ℚ (q -ℚ b))) i.of_q i.of_b)
    refl
