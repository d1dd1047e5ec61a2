-- The quotient of two fractions, from the numbers that its rule forms.
use Rattle.std.proofs.Common.{◌≡◌, ℕ, zero, suc, ◌*◌, ◌<◌, min, ℤ, pos, negsuc, neg_ℤ, ◌*ℤ◌, ◌≤ℤ◌, ◌<ℤ◌, [], ◌∷◌, refl, sym, ◌∙◌, ap, subst}
use Rattle.std.proofs.Common.{arith}
use Rattle.std.proofs.lemmas.Int.{ints, to_z-of_z}
use Rattle.std.specs.Int.{w128, cast_signed, cast_unsigned, int_signum}
use native.Mathlib.Nat.{mul-pos, zero-lt-suc}
use Rattle.frac_math.specs.Fraction.{ℚ, over, ratio, inverse, ◌*ℚ◌, ◌/ℚ◌}
use Rattle.frac_math.specs.Checked.{Fits}
use Rattle.frac_math.proofs.Ring.{var, num, ◌⊗◌, minus, ring, ring_from, by, done}
use Rattle.frac_math.proofs.Integers.{ints_ring}
use Rattle.frac_math.proofs.Casts.{cast_product}
use Rattle.frac_math.proofs.FractionRing.{itself, same, over_stands, mul_stands}

pub signum_zero : (z : ℤ) → int_signum z ≡ pos 0 → z ≡ pos 0
signum_zero (pos n) h = let e : min n 1 ≡ 0 = omega (arith, ints, h) in ap pos (omega arith)
signum_zero (negsuc n) h = absurd (cc)

-- a number times a sign keeps its size
pub sign_fits : (d : ℕ) (s : ℤ) → Fits (pos d) → negsuc 0 ≤ℤ s → s ≤ℤ pos 1 → Fits (pos d *ℤ s)
sign_fits d (pos zero) f low high = omega (arith, ints, f)
sign_fits d (pos (suc zero)) f low high = omega (arith, ints, f)
sign_fits d (pos (suc (suc n))) f low high = absurd (omega (arith, ints, high))
sign_fits d (negsuc zero) f low high = omega (arith, ints, f)
sign_fits d (negsuc (suc n)) f low high = absurd (omega (arith, ints, low))

-- a denominator times a sign, as the code has the two
pub part_fits : (d s : ℤ) (e : ℕ) → Fits d → Fits s → d ≡ pos e → negsuc 0 ≤ℤ s → s ≤ℤ pos 1
    → Fits (cast_signed w128 (cast_unsigned w128 d) *ℤ cast_signed w128 (cast_unsigned w128 s))
part_fits d s e f g p low high = subst Fits (sym (cast_product d s (pos e) s f g p refl)) (sign_fits e s (subst Fits p f) low high)

pub numerator_is : (a d s : ℤ) → a *ℤ (d *ℤ s) ≡ a *ℤ d *ℤ s
numerator_is a d s = ring ints_ring (a ∷ d ∷ s ∷ []) (var 0 ⊗ (var 1 ⊗ var 2)) (var 0 ⊗ var 1 ⊗ var 2) refl

pub denominator_is : (b c s : ℤ) → c *ℤ (b *ℤ s) ≡ b *ℤ c *ℤ s
denominator_is b c s = ring ints_ring (b ∷ c ∷ s ∷ []) (var 1 ⊗ (var 0 ⊗ var 2)) (var 0 ⊗ var 1 ⊗ var 2) refl

-- the sign, as the code has it
pub sign_is : (s n m : ℤ) → Fits n → n ≡ m → s ≡ int_signum (cast_signed w128 (cast_unsigned w128 n)) → s ≡ int_signum m
sign_is s n m f e h = h ∙ ap int_signum (to_z-of_z w128 n f ∙ e)

pub sign_not_zero : (s m : ℤ) → s ≡ int_signum m → (cast_unsigned w128 s ≡ 0 → ⊥) → m ≡ pos 0 → ⊥
sign_not_zero s m e h z = h (ap (cast_unsigned w128) (e ∙ ap int_signum z))

pub sign_zero : (s m : ℤ) → Fits s → s ≡ int_signum m → cast_unsigned w128 s ≡ 0 → m ≡ pos 0
sign_zero s m f e h = signum_zero m (sym e ∙ sym (to_z-of_z w128 s f) ∙ ap (cast_signed w128) h)

-- a result times a denominator with the sign
pub number_is : (n d s x t : ℤ) (e : ℕ) → Fits n → Fits d → Fits s → n ≡ x → d ≡ pos e → s ≡ t → negsuc 0 ≤ℤ s → s ≤ℤ pos 1
    → cast_signed w128 (cast_unsigned w128 n) *ℤ cast_signed w128
    (cast_unsigned w128 (cast_signed w128 (cast_unsigned w128 d) *ℤ cast_signed w128 (cast_unsigned w128 s))) ≡ x *ℤ (pos e *ℤ t)
number_is n d s x t e f g h p q r low high =
    cast_product n (cast_signed w128 (cast_unsigned w128 d) *ℤ cast_signed w128 (cast_unsigned w128 s)) x (pos e *ℤ t) f
    (part_fits d s e g h q low high) p (cast_product d s (pos e) t g h q r)

signum-pos : (n : ℕ) → int_signum (pos (suc n)) ≡ pos 1
signum-pos n = ap pos (omega arith)

pub denominator_above : (b : ℕ) (c : ℤ) → 0 < b → (c ≡ pos 0 → ⊥) → pos 0 <ℤ (pos b *ℤ c *ℤ int_signum c)
denominator_above b (pos zero) p h = absurd (h refl)
denominator_above b (pos (suc n)) p h =
    let t : 0 < b * suc n = mul-pos p (zero-lt-suc n) in
    subst (λ (s : ℤ). pos 0 <ℤ (pos b *ℤ pos (suc n) *ℤ s)) (sym (signum-pos n)) (omega (arith, ints))
denominator_above b (negsuc n) p h =
    let t : 0 < b * suc n = mul-pos p (zero-lt-suc n) in
    subst (λ (z : ℤ). pos 0 <ℤ z) (ring ints_ring (pos b ∷ pos (suc n) ∷ []) (var 0 ⊗ var 1) (var 0 ⊗ minus (var 1) ⊗ num (negsuc 0)) refl)
    (omega (arith, ints))

from_numbers : (x : ℚ) (c m : ℤ) (d k : ℕ) → (c ≡ pos 0 → ⊥) → 0 < k → m ≡ x.numerator *ℤ pos d *ℤ int_signum c
    → pos k ≡ pos x.denominator *ℤ c *ℤ int_signum c → x *ℚ ratio (pos d) c ≡ over m k
unfolding ratio
from_numbers x (pos zero) m d k h p e f = absurd (h refl)
from_numbers x (pos (suc n)) m d k h p e f =
    same _ _ _ _ _ _ (mul_stands _ _ _ _ _ _ (itself x) (over_stands (pos d) (suc n) (zero-lt-suc n))) (over_stands m k p)
    (ring_from ints_ring (x.numerator ∷ pos d ∷ pos k ∷ m ∷ pos x.denominator ∷ pos (suc n) ∷ int_signum (pos (suc n)) ∷ [])
    (var 0 ⊗ var 1 ⊗ var 2) (var 3 ⊗ (var 4 ⊗ var 5))
    (by (var 0 ⊗ var 1) (var 2) (var 4 ⊗ var 5 ⊗ var 6) (by (minus (var 4 ⊗ var 5)) (var 3) (var 0 ⊗ var 1 ⊗ var 6) done))
    (f, (e, tt)) refl)
from_numbers x (negsuc n) m d k h p e f =
    same _ _ _ _ _ _ (mul_stands _ _ _ _ _ _ (itself x) (over_stands (neg_ℤ (pos d)) (suc n) (zero-lt-suc n))) (over_stands m k p)
    (ring_from ints_ring (x.numerator ∷ pos d ∷ pos k ∷ m ∷ pos x.denominator ∷ pos (suc n) ∷ int_signum (negsuc n) ∷ [])
    (var 0 ⊗ minus (var 1) ⊗ var 2) (var 3 ⊗ (var 4 ⊗ var 5))
    (by (minus (var 0 ⊗ var 1)) (var 2) (var 4 ⊗ minus (var 5) ⊗ var 6) (by (minus (var 4 ⊗ var 5)) (var 3) (var 0 ⊗ var 1 ⊗ var 6) done))
    (f, (e, tt)) refl)

-- x / y over the numbers of its rule
pub quotient_is : (x y : ℚ) (m : ℤ) (k : ℕ) → (y.numerator ≡ pos 0 → ⊥) → 0 < k
    → m ≡ x.numerator *ℤ pos y.denominator *ℤ int_signum y.numerator
    → pos k ≡ pos x.denominator *ℤ y.numerator *ℤ int_signum y.numerator → x /ℚ y ≡ over m k
unfolding inverse
quotient_is x y m k h p e f = from_numbers x y.numerator m y.denominator k h p e f

pub positive_size : (z : ℤ) → pos 0 <ℤ z → (k : ℕ) × (0 < k) × (z ≡ pos k)
positive_size (pos k) h = (k, omega (arith, ints, h), refl)
positive_size (negsuc k) h = absurd h.lt
