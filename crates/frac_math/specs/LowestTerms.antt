-- What the definition of a fraction needs proved: a fraction divided by the greatest common divisor is in lowest terms,
-- and two numbers in lowest terms come back from the fraction that they stand for.
use Rattle.std.specs.Prelude.{◌≡◌, ℕ, zero, suc, ◌*◌, ◌/◌, ◌%◌, ◌<◌, Bool, true, T, ◌&&◌, nat_lt, nat_eq, ℤ, pos, negsuc, neg_ℤ, int_div}
use Rattle.std.specs.Prelude.{unsigned_abs, refl}
use Rattle.std.specs.Int.{IsGcd}
use Rattle.std.proofs.Common.{sym, ◌∙◌, ap, subst, lt-ltb, eq-eqb}
use Rattle.std.proofs.Math.Nat.{mod-lt, lt-suc_self, lt_of_lt_of_le, le_of_suc-le-suc, not-suc-le-zero, one-mul, zero-lt-suc, div-one}
use Rattle.std.proofs.lemmas.Nat.Gcd.{IsGcd-from_zero, IsGcd-from_mod}
use Rattle.std.proofs.Math.Nat.{div-mul_cancel, pos_of_dvd_of_pos, dvd_of_mul-dvd-mul_right, mul-dvd-mul_right, eq-one_of_dvd-one}
use Rattle.std.proofs.Math.Nat.{dvd-mul_right}
use Prim.Native.Nat.{◌∣◌}
use Rattle.frac_math.specs.Gcd.{gcd_within, gcd, is_lowest}

-- ---- Euclid's steps give the greatest common divisor
gcd_within-is : (steps a b : ℕ) → b < steps → IsGcd a b (gcd_within steps a b)
gcd_within-is zero a b h = absurd (not-suc-le-zero h)
gcd_within-is (suc steps) a zero h = IsGcd-from_zero a zero refl
gcd_within-is (suc steps) a (suc b) h =
    IsGcd-from_mod a (suc b) (gcd_within steps (suc b) (a % suc b))
    (gcd_within-is steps (suc b) (a % suc b) (lt_of_lt_of_le (mod-lt a (zero-lt-suc b)) (le_of_suc-le-suc h)))

pub gcd-is : (a b : ℕ) → IsGcd a b (gcd a b)
unfolding gcd
gcd-is a b = gcd_within-is (suc b) a b (lt-suc_self b)

pub gcd-one : (a : ℕ) → gcd a 1 ≡ 1
gcd-one a = eq-one_of_dvd-one (gcd-is a 1).1

pub gcd_pos : (a b : ℕ) → 0 < b → 0 < gcd a b
gcd_pos a b h = pos_of_dvd_of_pos (gcd-is a b).1 h

-- the quotients by it have no common divisor but 1
pub gcd-quotients : (a b : ℕ) → 0 < b → gcd (a / gcd a b) (b / gcd a b) ≡ 1
gcd-quotients a b h =
    let g = gcd a b in
    let is = gcd-is a b in
    let m = gcd (a / g) (b / g) in
    let parts = gcd-is (a / g) (b / g) in
    let first : m * g ∣ a = subst (λ (n : ℕ). m * g ∣ n) (div-mul_cancel g is.0) (mul-dvd-mul_right m parts.0 g) in
    let second : m * g ∣ b = subst (λ (n : ℕ). m * g ∣ n) (div-mul_cancel g is.1) (mul-dvd-mul_right m parts.1 g) in
    let all : m * g ∣ 1 * g = subst (λ (n : ℕ). m * g ∣ n) (sym (one-mul g)) (is.2 (m * g) first second) in
    eq-one_of_dvd-one (dvd_of_mul-dvd-mul_right m (gcd_pos a b h) all)

-- ---- lowest terms
both_tests : (a b : Bool) → a ≡ true → b ≡ true → T (a && b)
both_tests a b p q = subst (λ (x : Bool). T (x && b)) (sym p) (subst (λ (x : Bool). T x) (sym q) tt)

pub are_lowest : (n : ℤ) (d : ℕ) → 0 < d → gcd (unsigned_abs n) d ≡ 1 → T (is_lowest n d)
are_lowest n d p q = both_tests (nat_lt 0 d) (nat_eq (gcd (unsigned_abs n) d) 1) (lt-ltb 0 d p) (eq-eqb (gcd (unsigned_abs n) d) 1 q)

pub whole_lowest : (n : ℤ) → T (is_lowest n 1)
whole_lowest n = are_lowest n 1 (zero-lt-suc 0) (gcd-one (unsigned_abs n))

unsigned_abs-neg : (n : ℕ) → unsigned_abs (neg_ℤ (pos n)) ≡ n
unsigned_abs-neg zero = refl
unsigned_abs-neg (suc n) = refl

unsigned_abs-div : (n : ℤ) (g : ℕ) → unsigned_abs (int_div n (pos g)) ≡ unsigned_abs n / g
unsigned_abs-div (pos a) g = refl
unsigned_abs-div (negsuc a) g = unsigned_abs-neg (suc a / g)

pub quotients_lowest : (n : ℤ) (d : ℕ) → 0 < d → T (is_lowest (int_div n (pos (gcd (unsigned_abs n) d))) (d / gcd (unsigned_abs n) d))
quotients_lowest n d h =
    let g = gcd (unsigned_abs n) d in
    let divides : d / g ∣ d = subst (λ (m : ℕ). d / g ∣ m) (div-mul_cancel g (gcd-is (unsigned_abs n) d).1) (dvd-mul_right (d / g) g) in
    are_lowest (int_div n (pos g)) (d / g) (pos_of_dvd_of_pos divides h) (ap (λ a. gcd a (d / g)) (unsigned_abs-div n g)
    ∙ gcd-quotients (unsigned_abs n) d h)

-- ---- the two numbers come back
int_div-one : (n : ℤ) → int_div n (pos 1) ≡ n
int_div-one (pos a) = ap pos (div-one a)
int_div-one (negsuc a) = ap (λ m. neg_ℤ (pos m)) (div-one (suc a))

pub numerator_back : (n : ℤ) (d : ℕ) → gcd (unsigned_abs n) d ≡ 1 → int_div n (pos (gcd (unsigned_abs n) d)) ≡ n
numerator_back n d one = ap (λ g. int_div n (pos g)) one ∙ int_div-one n

pub denominator_back : (n : ℤ) (d : ℕ) → gcd (unsigned_abs n) d ≡ 1 → d / gcd (unsigned_abs n) d ≡ d
denominator_back n d one = ap (λ g. d / g) one ∙ div-one d
