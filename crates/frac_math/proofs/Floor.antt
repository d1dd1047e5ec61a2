-- The greatest whole number that is not above a fraction.
use Rattle.std.proofs.Common.{◌≡◌, ℕ, ◌+◌, ◌*◌, ◌/◌, ◌<◌, ◌≤◌, ℤ, pos, negsuc, ◌+ℤ◌, ◌*ℤ◌, ◌≤ℤ◌, ◌<ℤ◌, [], ◌∷◌, refl, sym, ◌∙◌, ap, subst}
use Rattle.std.proofs.Common.{arith}
use Rattle.std.proofs.lemmas.Int.{ints, clamps, by_lt_z}
use Rattle.std.specs.Int.{int_div_euclid, int_min, int_max}
use borrow.Author.Differences.{product_is, at_most_in, le_out}
use lib.Signed.{≤ℤ_refl}
use native.Mathlib.Nat.{le-div_iff_mul-le, div-lt_iff_lt-mul}
use Rattle.frac_math.specs.Fraction.{ℚ, whole, ◌+ℚ◌, ◌≤ℚ◌, ◌<ℚ◌, min_ℚ, max_ℚ, floor}
use Rattle.frac_math.specs.Standing.{Stands}
use Rattle.frac_math.proofs.Ring.{var, num, ◌⊕◌}
use Rattle.frac_math.proofs.Integers.{mul-one_ℤ}
use Rattle.frac_math.proofs.FractionRing.{denominator_positive, itself, whole-add}
use Rattle.frac_math.proofs.FractionOrder.{also, end, le_by_cross, cross_by_le, le_refl_ℚ, lt_not_le_ℚ, lt_of_not_le_ℚ, le_from, lt_from}
use Rattle.frac_math.proofs.FractionOrder.{le_trans_ℚ, add_le_ℚ, add_lt_ℚ, min_cases, max_cases}

-- ---- floor
le_floor_ℤ : (z n : ℤ) (d : ℕ) → 0 < d → (z *ℤ pos d) ≤ℤ n → z ≤ℤ int_div_euclid n (pos d)
le_floor_ℤ (pos b) (pos a) d p h = (let t : b ≤ a / d = (le-div_iff_mul-le p).1 (omega (arith, ints, h)) in omega (arith, ints))
le_floor_ℤ (negsuc b) (pos a) d p h = omega (arith, ints)
le_floor_ℤ (pos b) (negsuc a) d p h = absurd (omega (arith, ints, h))
le_floor_ℤ (negsuc b) (negsuc a) d p h =
    let t : a / d < b + 1 = (div-lt_iff_lt-mul p).1
    (omega (arith, product_is (negsuc b) (pos d), le_out (negsuc b *ℤ pos d) (negsuc a) h)) in
    omega (arith, ints)

floor_le_ℤ : (z n : ℤ) (d : ℕ) → 0 < d → z ≤ℤ int_div_euclid n (pos d) → (z *ℤ pos d) ≤ℤ n
floor_le_ℤ (pos b) (pos a) d p h =
    let t : b * d ≤ a = (le-div_iff_mul-le p).0 (omega (arith, ints, h)) in omega (arith, ints)
floor_le_ℤ (negsuc b) (pos a) d p h = at_most_in _ _ (omega (arith, product_is (negsuc b) (pos d)))
floor_le_ℤ (pos b) (negsuc a) d p h = absurd (omega (arith, ints, h))
floor_le_ℤ (negsuc b) (negsuc a) d p h =
    let t : a < (b + 1) * d = (div-lt_iff_lt-mul p).0 (omega (arith, ints, h)) in
    at_most_in _ _ (omega (arith, product_is (negsuc b) (pos d)))

-- a whole number is at most x exactly where it is at most the floor
pub le_floor : (z : ℤ) (x : ℚ) → whole z ≤ℚ x → z ≤ℤ floor x
unfolding floor
le_floor z x h = le_floor_ℤ z x.numerator x.denominator (denominator_positive x)
    (subst (λ (n : ℤ). (z *ℤ pos x.denominator) ≤ℤ n) (mul-one_ℤ x.numerator) h.at_most)

pub floor_le : (z : ℤ) (x : ℚ) → z ≤ℤ floor x → whole z ≤ℚ x
unfolding floor
floor_le z x h = record {
  at_most =
      subst (λ (n : ℤ). (z *ℤ pos x.denominator) ≤ℤ n) (sym (mul-one_ℤ x.numerator))
      (floor_le_ℤ z x.numerator x.denominator (denominator_positive x) h);
}

pub floor_below : (x : ℚ) → whole (floor x) ≤ℚ x
floor_below x = floor_le (floor x) x (≤ℤ_refl (floor x))

pub floor_above : (x : ℚ) → x <ℚ whole (floor x +ℤ pos 1)
floor_above x = lt_of_not_le_ℚ _ _ (λ h. absurd (omega (arith, ints, le_floor (floor x +ℤ pos 1) x h)))

pub floor_is : (x : ℚ) (z : ℤ) → whole z ≤ℚ x → x <ℚ whole (z +ℤ pos 1) → floor x ≡ z
floor_is x z p q =
    let above : floor x <ℤ (z +ℤ pos 1) =
    by_lt_z (floor x) (z +ℤ pos 1) (λ h. h) (λ h. absurd (lt_not_le_ℚ _ _ q (floor_le (z +ℤ pos 1) x h))) in
    omega (arith, ints, le_floor z x p)

pub floor_mono : (x y : ℚ) → x ≤ℚ y → floor x ≤ℤ floor y
floor_mono x y h = le_floor (floor x) y (le_trans_ℚ (whole (floor x)) x y (floor_below x) h)

-- the floor from any numbers that a fraction stands for
pub floor_stands : (x : ℚ) (n : ℤ) (d : ℕ) → Stands x n d → floor x ≡ int_div_euclid n (pos d)
floor_stands x n d s =
    let low : floor x ≤ℤ int_div_euclid n (pos d) = le_floor_ℤ (floor x) n d s.positive
    (let c = cross_by_le _ _ _ _ _ _ (itself (whole (floor x))) s (floor_below x) in
    subst (λ (m : ℤ). (floor x *ℤ pos d) ≤ℤ m) (mul-one_ℤ n) c) in
    let high : int_div_euclid n (pos d) ≤ℤ floor x = le_floor (int_div_euclid n (pos d)) x
    (le_by_cross _ _ _ _ _ _ (itself (whole (int_div_euclid n (pos d)))) s
    (subst (λ (m : ℤ). (int_div_euclid n (pos d) *ℤ pos d) ≤ℤ m) (sym (mul-one_ℤ n))
    (floor_le_ℤ (int_div_euclid n (pos d)) n d s.positive (≤ℤ_refl (int_div_euclid n (pos d)))))) in
    omega (arith, ints)

pub floor_whole : (z : ℤ) → floor (whole z) ≡ z
floor_whole z = floor_is (whole z) z (le_refl_ℚ (whole z)) (record { below = omega (arith, ints, mul-one_ℤ z, mul-one_ℤ (z +ℤ pos 1)) })

pub floor-add-whole : (x : ℚ) (z : ℤ) → floor (x +ℚ whole z) ≡ floor x +ℤ z
floor-add-whole x z =
    floor_is (x +ℚ whole z) (floor x +ℤ z)
    (subst (λ (w : ℚ). w ≤ℚ (x +ℚ whole z)) (sym (whole-add (floor x) z)) (add_le_ℚ (whole (floor x)) x (whole z) (floor_below x)))
    (subst (λ (w : ℚ). (x +ℚ whole z) <ℚ w) (sym (whole-add (floor x +ℤ pos 1) z)
    ∙ ap whole (omega (arith, ints))) (add_lt_ℚ x (whole (floor x +ℤ pos 1)) (whole z) (floor_above x)))

-- a dither between 0 and 1 leaves a whole number
pub floor_dither : (z : ℤ) (m : ℚ) → whole (pos 0) ≤ℚ m → m <ℚ whole (pos 1) → floor (whole z +ℚ m) ≡ z
floor_dither z m p q =
    floor_is (whole z +ℚ m) z
    (le_from (whole z ∷ m ∷ []) (var 0) (var 0 ⊕ var 1) (also (num (pos 0)) (var 1) end) (p, tt) refl)
    (subst (λ (w : ℚ). (whole z +ℚ m) <ℚ w) (sym (whole-add z (pos 1)))
    (lt_from (whole z ∷ m ∷ []) (var 0 ⊕ var 1) (var 0 ⊕ num (pos 1)) (var 1) (num (pos 1)) end q tt refl))

-- to clamp by whole bounds before the floor is to clamp after it
pub floor_min : (x : ℚ) (z : ℤ) → floor (min_ℚ x (whole z)) ≡ int_min (floor x) z
floor_min x z = min_cases (λ w. floor w ≡ int_min (floor x) z) x (whole z)
    (λ h. omega (arith, ints, clamps, floor_mono x (whole z) h, floor_whole z))
    (λ h. omega (arith, ints, clamps, floor_mono (whole z) x h, floor_whole z))

pub floor_max : (x : ℚ) (z : ℤ) → floor (max_ℚ x (whole z)) ≡ int_max (floor x) z
floor_max x z = max_cases (λ w. floor w ≡ int_max (floor x) z) x (whole z)
    (λ h. omega (arith, ints, clamps, floor_mono x (whole z) h, floor_whole z))
    (λ h. omega (arith, ints, clamps, floor_mono (whole z) x h, floor_whole z))
