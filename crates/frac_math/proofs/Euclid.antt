-- Euclid's steps, and what has no common divisor.
use Rattle.std.specs.Prelude.{◌≡◌, ℕ, zero, suc, ◌+◌, ◌*◌, ◌/◌, ◌%◌, ◌<◌, ◌≤◌, Bool, true, false, ◌&&◌, T, ltb, eqb, ℤ, refl}
use Rattle.std.proofs.Common.{arith, sym, ◌∙◌, ap, subst, ltb-true, eqb-true}
use Rattle.std.specs.Int.{IsGcd}
use Rattle.std.proofs.lemmas.Nat.{mod-mul-add, div-add-mod'}
use Rattle.std.proofs.lemmas.Nat.Gcd.{IsGcd-from_zero, IsGcd-from_mod, same_from_IsGcd, le_of_dvd}
use Prim.Native.Nat.{◌∣◌}
use lib.IntN.{nat_abs}
use native.Mathlib.Nat.{dvd_antisymm, dvd-mul_left, dvd-mul_right}
use Rattle.frac_math.specs.Gcd.{gcd_within, gcd, is_lowest}
use Rattle.frac_math.specs.LowestTerms.{gcd-is}

-- Euclid's step, as the code takes it
pub gcd-zero : (a : ℕ) → gcd a 0 ≡ a
gcd-zero a = same_from_IsGcd a 0 (gcd a 0) a (gcd-is a 0) (IsGcd-from_zero a 0 refl)

pub gcd-step : (a b : ℕ) → gcd b (a % b) ≡ gcd a b
gcd-step a b = same_from_IsGcd a b (gcd b (a % b)) (gcd a b) (IsGcd-from_mod a b (gcd b (a % b)) (gcd-is b (a % b))) (gcd-is a b)

pub gcd-below : (a b : ℕ) → 0 < b → gcd a b ≤ b
gcd-below a b h = le_of_dvd h (gcd-is a b).1

-- a common factor
mod_scaled : (a b k : ℕ) → 0 < b → 0 < k → a % b * k ≡ (a * k) % (b * k)
mod_scaled a b k p q =
    let less : a % b < b = omega arith in
    let below : a % b * k < b * k = grind arith in
    let split : a * k ≡ a / b * (b * k) + a % b * k = omega (arith, ap (λ n. n * k) (div-add-mod' a b)) in
    sym (mod-mul-add (a / b) (b * k) (a % b * k) below) ∙ ap (λ n. n % (b * k)) (sym split)

scaled_in : (steps a b k : ℕ) → b < steps → 0 < k → IsGcd (a * k) (b * k) (gcd_within steps a b * k)
scaled_in zero a b k h q = absurd (omega arith)
scaled_in (suc steps) a zero k h q = IsGcd-from_zero (a * k) (zero * k) (omega arith)
scaled_in (suc steps) a (suc c) k h q =
    let less : a % suc c < suc c = omega arith in
    let g = gcd_within steps (suc c) (a % suc c) in
    let t = scaled_in steps (suc c) (a % suc c) k (omega arith) q in
    IsGcd-from_mod (a * k) (suc c * k) (g * k) (subst (λ (r : ℕ). IsGcd (suc c * k) r (g * k)) (mod_scaled a (suc c) k (omega arith) q) t)

scaled : (a b k : ℕ) → 0 < k → IsGcd (a * k) (b * k) (gcd a b * k)
unfolding gcd
scaled a b k q = scaled_in (suc b) a b k (omega arith) q

-- b divides a product, and has no factor in common with one of its factors
pub divides_other : (a b c : ℕ) → 0 < c → gcd a b ≡ 1 → b ∣ a * c → b ∣ c
divides_other a b c q one d =
    let s = scaled a b c q in
    let t : gcd a b * c ≡ c = omega (arith, ap (λ n. n * c) one) in
    subst (λ (n : ℕ). b ∣ n) t (s.2 b d (dvd-mul_right b c))

-- two pairs without common factors that stand for one fraction
pub same_pair : (a b c d : ℕ) → 0 < b → 0 < d → gcd a b ≡ 1 → gcd c d ≡ 1 → a * d ≡ c * b → b ≡ d
same_pair a b c d p q one one' e =
    dvd_antisymm (divides_other a b d q one (subst (λ (n : ℕ). b ∣ n) (sym e) (dvd-mul_left b c)))
    (divides_other c d b p one' (subst (λ (n : ℕ). d ∣ n) e (dvd-mul_left d a)))

first_test : (a b : Bool) → T (a && b) → a ≡ true
first_test true b t = refl
first_test false b t = absurd t

second_test : (a b : Bool) → T (a && b) → b ≡ true
second_test true true t = refl
second_test true false t = absurd t
second_test false b t = absurd t

pub lowest_positive : (n : ℤ) (d : ℕ) → T (is_lowest n d) → 0 < d
lowest_positive n d t = ltb-true 0 d (first_test (ltb 0 d) (eqb (gcd (nat_abs n) d) 1) t)

pub lowest_one : (n : ℤ) (d : ℕ) → T (is_lowest n d) → gcd (nat_abs n) d ≡ 1
lowest_one n d t = eqb-true (gcd (nat_abs n) d) 1 (second_test (ltb 0 d) (eqb (gcd (nat_abs n) d) 1) t)
