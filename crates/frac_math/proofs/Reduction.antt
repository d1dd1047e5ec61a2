-- The two numbers of a fraction, divided by their greatest common divisor.
use Rattle.std.proofs.Common.{◌≡◌, ℕ, zero, suc, ◌*◌, ◌/◌, ◌^◌, ◌<◌, T, Bool, true, false, not, ℤ, pos, negsuc, neg_ℤ, ◌*ℤ◌, ◌<ℤ◌, ◌≤ℤ◌}
use Rattle.std.proofs.Common.{refl, ◌∙◌, ap, arith, unsigned_abs}
use Rattle.std.proofs.lemmas.Int.{ints, to_z-of_z}
use Rattle.std.specs.Int.RustNames.{int_div, FitsSigned}
use Rattle.std.specs.Int.{w128, cast_signed, cast_unsigned}
use native.Mathlib.Nat.{div-mul_cancel, mul-pos, zero-div}
use lib.Signed.{lt_z}
use mathlib.Core.Bool.{beq}
use Rattle.frac_math.specs.Gcd.{gcd, is_lowest}
use Rattle.frac_math.specs.Fraction.{ℚ, whole, over, ratio}
use Rattle.frac_math.specs.Reduced.{IsReduced}
use Rattle.frac_math.specs.Signed.{with_sign}
use Rattle.frac_math.specs.LowestTerms.{gcd-is, gcd_pos, gcd-one, quotients_lowest}
use Rattle.frac_math.proofs.Euclid.{gcd-below, lowest_positive, lowest_one}
use Rattle.frac_math.proofs.Casts.{abs_known}
use Rattle.frac_math.proofs.FractionRing.{itself, same, over_stands, part_mul, denominator_positive}

-- num/g and den/g, as `reduced` makes them
pub divided_pair : (n d : ℤ) (g : ℕ) → pos 0 <ℤ d → g ≡ gcd (unsigned_abs n) (unsigned_abs d)
    → IsReduced (int_div n (pos g)) (int_div d (pos g))
divided_pair n (negsuc d) g h is = absurd (omega (arith, ints, h))
divided_pair n (pos d) g h is =
    let p : 0 < d = omega (arith, ints, h) in
    let t : T (is_lowest (int_div n (pos (gcd (unsigned_abs n) d))) (d / gcd (unsigned_abs n) d)) = quotients_lowest n d p in
    rw is (record {
      positive = (let q = lowest_positive (int_div n (pos (gcd (unsigned_abs n) d))) (d / gcd (unsigned_abs n) d) t in omega (arith, ints));
      lowest = lowest_one (int_div n (pos (gcd (unsigned_abs n) d))) (d / gcd (unsigned_abs n) d) t;
    })

pub divided_same : (n d : ℤ) (g : ℕ) → pos 0 <ℤ d → g ≡ gcd (unsigned_abs n) (unsigned_abs d)
    → over (int_div n (pos g)) (unsigned_abs (int_div d (pos g))) ≡ over n (unsigned_abs d)
divided_same n (negsuc d) g h is = absurd (omega (arith, ints, h))
divided_same n (pos d) g h is =
    let p : 0 < d = omega (arith, ints, h) in
    let w = gcd (unsigned_abs n) d in
    let q = lowest_positive (int_div n (pos w)) (d / w) (quotients_lowest n d p) in
    rw is (same _ _ _ _ _ _ (over_stands (int_div n (pos w)) (d / w) q) (over_stands n d p)
    (part_mul n d w (div-mul_cancel w (gcd-is (unsigned_abs n) d).0) (div-mul_cancel w (gcd-is (unsigned_abs n) d).1)))

pub gcd_fits : (n d : ℤ) → pos 0 <ℤ d → FitsSigned w128 d
    → (0 < gcd (unsigned_abs n) (unsigned_abs d)) × (gcd (unsigned_abs n) (unsigned_abs d) < 2 ^ 127)
gcd_fits n (negsuc d) h f = absurd (omega (arith, ints, h))
gcd_fits n (pos d) h f =
    let p : 0 < d = omega (arith, ints, h) in
    let b = gcd-below (unsigned_abs n) d p in
    (gcd_pos (unsigned_abs n) d p, omega (arith, ints, f))

pub product_positive_ℤ : (x y : ℚ) (z : ℤ) → FitsSigned w128 z → z ≡ pos x.denominator *ℤ pos y.denominator
    → pos 0 <ℤ cast_signed w128 (cast_unsigned w128 z)
product_positive_ℤ x y z f e =
    rw (to_z-of_z w128 z f, e) (let p : 0 < x.denominator * y.denominator = mul-pos (denominator_positive x) (denominator_positive y) in
    omega (arith, ints))

-- what `reduced` answers for a denominator that is a product
pub reduced_known : (r : ℚ) (n d m : ℤ) (k : ℕ) → FitsSigned w128 n → FitsSigned w128 d → n ≡ m → d ≡ pos k
    → r ≡ over (cast_signed w128 (cast_unsigned w128 n)) (unsigned_abs (cast_signed w128 (cast_unsigned w128 d))) → r ≡ over m k
reduced_known r n d m k f g p q e = e ∙ rw (to_z-of_z w128 n f, to_z-of_z w128 d g, p, q)

pub whole_reduced : (n : ℤ) → IsReduced n (pos 1)
whole_reduced n = record { positive = omega (arith, ints); lowest = gcd-one (unsigned_abs n) }

pub over_one : (n : ℤ) → over n 1 ≡ whole n
over_one n = same _ _ _ _ _ _ (over_stands n 1 (omega arith)) (itself (whole n)) refl

-- the two numbers of a fraction are in lowest terms, and give it back
pub own_reduced : (x : ℚ) → IsReduced x.numerator (pos x.denominator)
own_reduced x = record {
  positive = (let p = denominator_positive x in omega (arith, ints));
  lowest =
      lowest_one x.numerator x.denominator x.lowest;
}

pub own_over : (x : ℚ) → over x.numerator x.denominator ≡ x
own_over x = same _ _ _ _ _ _ (over_stands x.numerator x.denominator (denominator_positive x)) (itself x) refl

-- ---- n/d of any sign
abs_neg : (n : ℤ) → unsigned_abs (neg_ℤ n) ≡ unsigned_abs n
abs_neg (pos zero) = refl
abs_neg (pos (suc n)) = refl
abs_neg (negsuc n) = refl

is_pos : (b : Bool) (n : ℕ) → b ≡ false → pos n ≡ with_sign b n
is_pos false n e = omega (arith, ints)
is_pos true n e = absurd (cc)

is_neg : (b : Bool) (n : ℕ) → b ≡ true → neg_ℤ (pos n) ≡ with_sign b n
is_neg true n e = omega (arith, ints)
is_neg false n e = absurd (cc)

not_under : (n : ℤ) → pos 0 ≤ℤ n → lt_z n (pos 0) ≡ false
not_under n h = grind (arith, ints)

signed_is : (n : ℤ) (g : ℕ) → int_div n (pos g) ≡ with_sign (lt_z n (pos 0)) (unsigned_abs n / g)
signed_is (pos a) g = is_pos (lt_z (pos a) (pos 0)) (a / g) (not_under (pos a) (omega (arith, ints)))
signed_is (negsuc a) g = is_neg true (suc a / g) refl

zero_neg : (g : ℕ) → pos (0 / g) ≡ neg_ℤ (pos (0 / g))
zero_neg g = rw zero-div

signed_neg : (n : ℤ) (g : ℕ) → int_div (neg_ℤ n) (pos g) ≡ with_sign (not (lt_z n (pos 0))) (unsigned_abs n / g)
signed_neg (pos zero) g = zero_neg g ∙ is_neg (not (lt_z (pos 0) (pos 0))) (0 / g) refl
signed_neg (pos (suc a)) g = is_neg (not (lt_z (pos (suc a)) (pos 0))) (suc a / g) (ap not (not_under (pos (suc a)) (omega (arith, ints))))
signed_neg (negsuc a) g = is_pos false (suc a / g) refl

-- whether one of the two is below 0, and the other is not
abbrev pub signs_differ : ℤ → ℤ → Bool
signs_differ n d = not (beq (lt_z n (pos 0)) (lt_z d (pos 0)))

apart_false : (a b : Bool) → b ≡ false → a ≡ not (beq a b)
apart_false true b e = rw e
apart_false false b e = rw e

pub ratio_num : (n d : ℤ) → (d ≡ pos 0 → ⊥)
    → (ratio n d).numerator ≡ with_sign (signs_differ n d) (unsigned_abs n / gcd (unsigned_abs n) (unsigned_abs d))
unfolding ratio over
ratio_num n (pos zero) h = absurd (h refl)
ratio_num n (pos (suc d)) h =
    signed_is n (gcd (unsigned_abs n) (suc d))
    ∙ ap (λ b. with_sign b (unsigned_abs n / gcd (unsigned_abs n) (suc d)))
    (apart_false (lt_z n (pos 0)) (lt_z (pos (suc d)) (pos 0)) (not_under (pos (suc d)) (omega (arith, ints))))
ratio_num n (negsuc d) h =
    ap (λ a. int_div (neg_ℤ n) (pos (gcd a (suc d)))) (abs_neg n)
    ∙ signed_neg n (gcd (unsigned_abs n) (suc d))
    ∙ ap (λ b. with_sign b (unsigned_abs n / gcd (unsigned_abs n) (suc d))) (apart_true (lt_z n (pos 0)))
  where
    apart_true : (a : Bool) → not a ≡ not (beq a true)
    apart_true true = refl
    apart_true false = refl

pub ratio_den : (n d : ℤ) → (d ≡ pos 0 → ⊥)
    → pos (ratio n d).denominator ≡ with_sign false (unsigned_abs d / gcd (unsigned_abs n) (unsigned_abs d))
unfolding ratio over
ratio_den n (pos zero) h = absurd (h refl)
ratio_den n (pos (suc d)) h = omega (arith, ints)
ratio_den n (negsuc d) h = ap (λ a. pos (suc d / gcd a (suc d))) (abs_neg n) ∙ (omega (arith, ints))

pub divisor_positive : (n d : ℤ) → (d ≡ pos 0 → ⊥) → 0 < gcd (unsigned_abs n) (unsigned_abs d)
divisor_positive n (pos zero) h = absurd (h refl)
divisor_positive n (pos (suc d)) h = gcd_pos (unsigned_abs n) (suc d) (omega arith)
divisor_positive n (negsuc d) h = gcd_pos (unsigned_abs n) (suc d) (omega arith)

-- ---- what the code has of it
pub gcd_known : (g u w : ℕ) (n d : ℤ) → FitsSigned w128 n → FitsSigned w128 d → u ≡ unsigned_abs (cast_signed w128 (cast_unsigned w128 n))
    → w ≡ unsigned_abs (cast_signed w128 (cast_unsigned w128 d)) → g ≡ gcd u w
    → g ≡ gcd (unsigned_abs n) (unsigned_abs d)
gcd_known g u w n d f h p q e = e ∙ rw (abs_known u n n f refl p, abs_known w d d h refl q)

pub size_known : (b c : Bool) (u g m : ℕ) (n : ℤ) → FitsSigned w128 n → b ≡ c → u ≡ unsigned_abs (cast_signed w128 (cast_unsigned w128 n))
    → g ≡ m → with_sign b (u / g) ≡ with_sign c (unsigned_abs n / m)
size_known b c u g m n f p q e = rw (p, abs_known u n n f refl q, e)
