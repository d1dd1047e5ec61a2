-- The scale of levels is above 0, so codes and values go back and forth.
use Rattle.std.proofs.Common.{◌≡◌, ℕ, ◌-◌, ◌*◌, ◌^◌, ◌<◌, ◌≤◌, pos, [], ◌∷◌, refl, arith}
use Rattle.std.proofs.lemmas.Int.{ints}
use Rattle.std.proofs.lemmas.Nat.{pow_below, pow_pos}
use Rattle.frac_math.specs.Fraction.{ℚ, nat, over, ◌<ℚ◌, inverse}
use Rattle.frac_math.proofs.Ring.{var, num, ◌⊕◌, ◌⊖◌, ◌⊗◌, ring_from, done, by}
use Rattle.frac_math.proofs.FractionRing.{fractions, same, itself, over_stands, mul_stands}
use Rattle.frac_math.proofs.FractionOrder.{stands_above_zero, inverse_of_positive, whole_lt}
use Rattle.colour_matrix.specs.Levels.{levels, scaled_to, from_code, to_code}
use Rattle.colour_matrix.specs.declared.class.Class.{Class}
use Rattle.colour_matrix.specs.declared.class.Class.TheVariants.{Direct, Luma, Chroma}
use Rattle.colour_matrix.specs.declared.class.Range.{Range}
use Rattle.colour_matrix.specs.declared.class.Range.TheVariants.{Full, Limited}
use Rattle.colour_matrix.specs.declared.class.Levels.{Levels}

-- a scaled code as one fraction
pub scaled_is : (depth code : ℕ) → over (pos (2 ^ depth * code)) 256 ≡ scaled_to depth code
unfolding scaled_to
scaled_is depth code =
    same _ _ _ _ _ _ (over_stands (pos (2 ^ depth * code)) 256 (omega arith))
    (mul_stands _ _ _ _ _ _ (over_stands (pos (2 ^ depth)) 256 (omega arith)) (itself (nat code))) refl

scaled_positive : (depth code : ℕ) → 0 < code → nat 0 <ℚ scaled_to depth code
scaled_positive depth code h =
    let p = pow_pos depth in
    let more : 0 < 2 ^ depth * code = grind (arith, p) in
    rw (← scaled_is depth code) (stands_above_zero _ (2 ^ depth * code) 256 (over_stands (pos (2 ^ depth * code)) 256 (omega arith)) more)

greatest_positive : (depth : ℕ) → 1 ≤ depth → nat 0 <ℚ nat (2 ^ depth - 1)
greatest_positive depth h = whole_lt (pos 0) (pos (2 ^ depth - 1)) (omega (arith, ints, pow_below 0 depth h))

pub scale_positive : (class : Class) (depth : ℕ) (range : Range) → 1 ≤ depth → nat 0 <ℚ (levels class depth range).scale
unfolding levels
scale_positive Luma depth Limited h = scaled_positive depth 219 (omega arith)
scale_positive Chroma depth Limited h = scaled_positive depth 224 (omega arith)
scale_positive Luma depth Full h = greatest_positive depth h
scale_positive Chroma depth Full h = greatest_positive depth h
scale_positive Direct depth range h = greatest_positive depth h

pub to_code-from_code : (l : Levels) (code : ℚ) → nat 0 <ℚ l.scale → to_code l (from_code l code) ≡ code
unfolding to_code from_code
to_code-from_code l code h =
    ring_from fractions (l.scale ∷ l.base ∷ code ∷ inverse l.scale ∷ []) (var 0 ⊗ ((var 2 ⊖ var 1) ⊗ var 3) ⊕ var 1) (var 2)
    (by (var 2 ⊖ var 1) (var 0 ⊗ var 3) (num (pos 1)) done) (inverse_of_positive l.scale h, tt) refl

pub from_code-to_code : (l : Levels) (e : ℚ) → nat 0 <ℚ l.scale → from_code l (to_code l e) ≡ e
unfolding to_code from_code
from_code-to_code l e h =
    ring_from fractions (l.scale ∷ l.base ∷ e ∷ inverse l.scale ∷ []) ((var 0 ⊗ var 2 ⊕ var 1 ⊖ var 1) ⊗ var 3) (var 2)
    (by (var 2) (var 0 ⊗ var 3) (num (pos 1)) done) (inverse_of_positive l.scale h, tt) refl
