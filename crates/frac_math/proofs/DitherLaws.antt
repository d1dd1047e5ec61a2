-- The dither is an odd number over 2 * 4 ^ k, lies between 0 and 1, and gives the digits of column and row back.
use Rattle.std.proofs.Common.{◌≡◌, ℕ, zero, suc, ◌+◌, ◌-◌, ◌*◌, ◌/◌, ◌%◌, ◌^◌, ◌<◌, ◌≤◌, ℤ, pos, ◌*ℤ◌, refl, sym, ◌∙◌, ap, subst, arith}
use Rattle.std.proofs.Common.{add-one}
use Rattle.std.proofs.Math.Pow.{mod-mod-pow}
use Rattle.std.proofs.lemmas.Int.{ints}
use Rattle.std.proofs.lemmas.Nat.{mod-pow-add, mod_below, div-mul-add}
use native.Mathlib.Nat.{pow-suc, pow-le-pow_right, mod-eq_of_lt}
use Rattle.frac_math.specs.Fraction.{ℚ, whole, nat, over, ◌+ℚ◌, ◌<ℚ◌, floor}
use Rattle.frac_math.specs.Dither.{digit, index, index_sum, dither_at}
use Rattle.frac_math.specs.Standing.{Stands}
use Rattle.frac_math.proofs.FractionRing.{itself, same, change, over_stands, add_stands, same_numerator}
use Rattle.frac_math.proofs.FractionOrder.{lt_by_cross, le_of_lt_ℚ}
use Rattle.frac_math.proofs.Floor.{floor_dither}

-- ---- the numbers of the index matrix as the digits of one number in base 4
pub index_number : ℕ → ℕ → ℕ → ℕ
index_number zero x y = 0
index_number (suc i) x y = 4 * index_number i x y + index (digit i x) (digit i y)

pub index_number-zero : (x y : ℕ) → index_number 0 x y ≡ 0
unfolding index_number
index_number-zero x y = refl

pub index_number-add-one : (i x y : ℕ) → index_number (i + 1) x y ≡ 4 * index_number i x y + index (digit i x) (digit i y)
unfolding index_number
index_number-add-one i x y = rw add-one

pub index_most : (x y : ℕ) → index x y ≤ 3
index_most zero zero = omega arith
index_most (suc x) (suc y) = omega arith
index_most (suc x) zero = omega arith
index_most zero (suc y) = omega arith

pub index_number_below : (k x y : ℕ) → index_number k x y < 4 ^ k
unfolding index_number
index_number_below zero x y = omega arith
index_number_below (suc i) x y = omega (arith, index_number_below i x y, index_most (digit i x) (digit i y), pow-suc 4 i)

power_positive : (k : ℕ) → 0 < 4 ^ k
power_positive k = omega (arith, index_number_below k 0 0)

-- both numbers are small, for a dither of up to 16 by 16 pixels
pub small_numbers : (k x y : ℕ) → k ≤ 4 → (index_number k x y < 256) × (0 < 4 ^ k) × (4 ^ k ≤ 256)
small_numbers k x y h =
    let most : 4 ^ k ≤ 4 ^ 4 = pow-le-pow_right (omega arith) h in
    (omega (arith, index_number_below k x y, most), power_positive k, omega (arith, most))

over_products : (m n p q r : ℕ) → q ≡ 4 * p → q ≡ r → (m * q + n * p) * r ≡ (4 * m + n) * (p * q)
over_products m n p q r e f = subst (λ (s : ℕ). (m * q + n * p) * s ≡ (4 * m + n) * (p * q)) f (omega (arith, ap (λ (t : ℕ). m * t * q) e))

sum_stands : (k x y : ℕ) → Stands (index_sum k x y) (pos (index_number k x y)) (4 ^ k)
unfolding index_number
sum_stands zero x y = itself (nat 0)
sum_stands (suc i) x y =
    let n = index (digit i x) (digit i y) in
    let e : 4 ^ (i + 1) ≡ 4 ^ suc i = ap (λ (m : ℕ). 4 ^ m) (add-one i) in
    let step : 4 ^ (i + 1) ≡ 4 * 4 ^ i = omega (arith, e, pow-suc 4 i) in
    change _ _ _ _ _ (add_stands _ _ _ _ _ _ (sum_stands i x y) (over_stands (pos n) (4 ^ (i + 1)) (power_positive (i + 1))))
    (power_positive (suc i))
    (ap pos (over_products (index_number i x y) n (4 ^ i) (4 ^ (i + 1)) (4 ^ suc i) step e))

halves : (n p : ℕ) → (n * (2 * p) + 1 * p) * (2 * p) ≡ (2 * n + 1) * (p * (2 * p))
halves n p = omega arith

pub dither_stands : (k x y : ℕ) → Stands (dither_at k x y) (pos (2 * index_number k x y + 1)) (2 * 4 ^ k)
unfolding dither_at
dither_stands k x y =
    let positive : 0 < 2 * 4 ^ k = omega (arith, power_positive k) in
    change _ _ _ _ _ (add_stands _ _ _ _ _ _ (sum_stands k x y) (over_stands (pos 1) (2 * 4 ^ k) positive)) positive
    (ap pos (halves (index_number k x y) (4 ^ k)))

-- what the code's two numbers give
pub dither_known : (r : ℚ) (k i x y sum cells : ℕ) → i ≡ k → sum ≡ index_number i x y → cells ≡ 4 ^ i
    → r ≡ over (pos (2 * sum + 1)) (2 * cells) → r ≡ dither_at k x y
dither_known r k i x y sum cells e p q h =
    let positive : 0 < 2 * 4 ^ k = omega (arith, power_positive k) in
    h
    ∙ rw (p, q, e) (same _ _ _ _ _ _ (over_stands (pos (2 * index_number k x y + 1)) (2 * 4 ^ k) positive) (dither_stands k x y) refl)

-- ---- between 0 and 1
pub dither_above : (k x y : ℕ) → nat 0 <ℚ dither_at k x y
dither_above k x y = lt_by_cross _ _ _ _ _ _ (itself (nat 0)) (dither_stands k x y) (omega (arith, ints))

pub dither_below : (k x y : ℕ) → dither_at k x y <ℚ nat 1
dither_below k x y = lt_by_cross _ _ _ _ _ _ (dither_stands k x y) (itself (nat 1)) (omega (arith, ints, index_number_below k x y))

pub dither_floor : (k x y : ℕ) (z : ℤ) → floor (whole z +ℚ dither_at k x y) ≡ z
dither_floor k x y z = floor_dither z (dither_at k x y) (le_of_lt_ℚ _ _ (dither_above k x y)) (dither_below k x y)

-- ---- the dither repeats
digit_mod : (n i j : ℕ) → digit i (n % 2 ^ (suc j + i)) ≡ digit i n
digit_mod n i j =
    let low : n % 2 ^ i < 2 ^ i = mod_below n (2 ^ i) (power_positive i) in
    ap (λ (m : ℕ). m / 2 ^ i % 2) (mod-pow-add n (suc j) i)
    ∙ ap (λ (m : ℕ). m % 2) (div-mul-add (n / 2 ^ i % 2 ^ suc j) (2 ^ i) (n % 2 ^ i) low)
    ∙ ap (λ (e : ℕ). n / 2 ^ i % 2 ^ e % 2) (sym (add-one j))
    ∙ mod-mod-pow (n / 2 ^ i) j 1
  where
    power_positive : (i : ℕ) → 0 < 2 ^ i
    power_positive zero = omega arith
    power_positive (suc i) = omega (arith, power_positive i, pow-suc 2 i)

index_number_mod : (k i x y : ℕ) → i ≤ k → index_number i (x % 2 ^ k) (y % 2 ^ k) ≡ index_number i x y
unfolding index_number
index_number_mod k zero x y h = refl
index_number_mod k (suc i) x y h =
    let e : suc (k - suc i) + i ≡ k = omega arith in
    let column = subst (λ (m : ℕ). digit i (x % 2 ^ m) ≡ digit i x) e (digit_mod x i (k - suc i)) in
    let row = subst (λ (m : ℕ). digit i (y % 2 ^ m) ≡ digit i y) e (digit_mod y i (k - suc i)) in
    let rest = index_number_mod k i x y (omega arith) in cc

pub dither_repeats : (k x y : ℕ) → dither_at k (x % 2 ^ k) (y % 2 ^ k) ≡ dither_at k x y
dither_repeats k x y =
    same _ _ _ _ _ _ (dither_stands k (x % 2 ^ k) (y % 2 ^ k)) (dither_stands k x y)
    (ap (λ (n : ℕ). pos (2 * n + 1) *ℤ pos (2 * 4 ^ k)) (index_number_mod k k x y (omega arith)))

-- ---- one pixel of the square, one dither: the digits come back from the number in the index matrix
column_of : ℕ → ℕ
column_of zero = 0
column_of (suc zero) = 1
column_of (suc (suc zero)) = 1
column_of (suc (suc (suc n))) = 0

row_of : ℕ → ℕ
row_of zero = 0
row_of (suc zero) = 1
row_of (suc (suc zero)) = 0
row_of (suc (suc (suc n))) = 1

column_of-index : (a b : ℕ) → a < 2 → b < 2 → column_of (index a b) ≡ a
unfolding column_of
column_of-index zero zero p q = refl
column_of-index zero (suc b) p q = refl
column_of-index (suc zero) zero p q = refl
column_of-index (suc zero) (suc b) p q = refl
column_of-index (suc (suc a)) b p q = absurd (omega (arith, p))

row_of-index : (a b : ℕ) → a < 2 → b < 2 → row_of (index a b) ≡ b
unfolding row_of
row_of-index zero zero p q = refl
row_of-index (suc a) zero p q = refl
row_of-index zero (suc zero) p q = refl
row_of-index (suc a) (suc zero) p q = refl
row_of-index a (suc (suc b)) p q = absurd (omega (arith, q))

digit_below : (i n : ℕ) → digit i n < 2
digit_below i n = mod_below (n / 2 ^ i) 2 (omega arith)

one_more : (k x u : ℕ) → digit k x ≡ digit k u → x % 2 ^ k ≡ u % 2 ^ k → x % 2 ^ suc k ≡ u % 2 ^ suc k
one_more k x u g h =
    let e : suc k ≡ 1 + k = omega arith in
    ap (λ (m : ℕ). x % 2 ^ m) e
    ∙ mod-pow-add x 1 k
    ∙ ap (λ (n : ℕ). n * 2 ^ k + x % 2 ^ k) g
    ∙ ap (λ (n : ℕ). digit k u * 2 ^ k + n) h
    ∙ sym (mod-pow-add u 1 k)
    ∙ ap (λ (m : ℕ). u % 2 ^ m) (sym e)

index_number_digits : (k x y u v : ℕ) → index_number k x y ≡ index_number k u v → (x % 2 ^ k ≡ u % 2 ^ k) × (y % 2 ^ k ≡ v % 2 ^ k)
unfolding index_number
index_number_digits zero x y u v e = (omega arith, omega arith)
index_number_digits (suc k) x y u v e =
    let m = index_most (digit k x) (digit k y) in
    let n = index_most (digit k u) (digit k v) in
    let rest = index_number_digits k x y u v (omega arith) in
    let last : index (digit k x) (digit k y) ≡ index (digit k u) (digit k v) = omega arith in
    let column = sym (column_of-index (digit k x) (digit k y) (digit_below k x) (digit_below k y)) ∙ ap column_of last
    ∙ column_of-index (digit k u) (digit k v) (digit_below k u) (digit_below k v) in
    let row = sym (row_of-index (digit k x) (digit k y) (digit_below k x) (digit_below k y)) ∙ ap row_of last
    ∙ row_of-index (digit k u) (digit k v) (digit_below k u) (digit_below k v) in
    (one_more k x u column rest.0, one_more k y v row rest.1)

pub dither_distinct : (k x y u v : ℕ) → x < 2 ^ k → y < 2 ^ k → u < 2 ^ k → v < 2 ^ k → dither_at k x y ≡ dither_at k u v
    → (x ≡ u) × (y ≡ v)
dither_distinct k x y u v a b c d e =
    let numbers : pos (2 * index_number k x y + 1) ≡ pos (2 * index_number k u v + 1) =
    same_numerator _ _ _ _ (dither_stands k x y)
    (subst (λ (q : ℚ). Stands q (pos (2 * index_number k u v + 1)) (2 * 4 ^ k)) (sym e) (dither_stands k u v)) in
    let digits = index_number_digits k x y u v (omega (arith, ints, numbers)) in
    (sym (mod-eq_of_lt a) ∙ digits.0 ∙ mod-eq_of_lt c, sym (mod-eq_of_lt b) ∙ digits.1 ∙ mod-eq_of_lt d)
