-- Least common multiples, and sizes over a multiple of a denominator.
use Rattle.std.proofs.Common.{◌≡◌, ℕ, zero, suc, ◌*◌, ◌/◌, ◌<◌, List, [], ◌∷◌, subst, refl, sym, ap, arith}
use Rattle.std.specs.Prelude.{Option, Some, None, unsigned_abs}
use Rattle.std.proofs.Math.Nat.{div-mul_cancel, dvd-mul_right, dvd-mul_left, pos_of_dvd_of_pos}
use Rattle.std.proofs.lemmas.Nat.Gcd.{dvd_refl, dvd_trans}
use Rattle.std.proofs.lemmas.Option.{same_Some, none-some}
use Prim.Native.Nat.{◌∣◌}
use native.Mathlib.Nat.{eq_of_mul-eq-mul_right}
use Rattle.frac_math.specs.Gcd.{gcd}
use Rattle.frac_math.specs.LowestTerms.{gcd-is, gcd-quotients}
use Rattle.frac_math.specs.Fraction.{ℚ}
use Rattle.frac_math.proofs.Euclid.{divides_other}
use Rattle.frac_math.proofs.FractionRing.{denominator_positive}
use Rattle.op_list.specs.Values.{fraction_in, entry}
use Rattle.op_list.specs.Apply.{row_of}
use Rattle.op_range.specs.FractionBounds.{factor, other_factor}
use Rattle.op_range.specs.Width.{common_multiple, denominator_over, rows_denominator, multiple_with, entries_denominator, size_over}
use Rattle.op_range.proofs.FractionBounds.{common}
use Rattle.op_range.proofs.Capping.{over_least, with_least}

-- ---- a multiple
pub divides_on : (a b c : ℕ) → a ∣ b → b ∣ c → a ∣ c
divides_on a b c h k = dvd_trans a h k

pub quotient_positive : (g d : ℕ) → g ∣ d → 0 < d → 0 < d / g
quotient_positive g d h p = pos_of_dvd_of_pos (subst (λ (m : ℕ). d / g ∣ m) (div-mul_cancel g h) (dvd-mul_right (d / g) g)) p

-- ---- the least common multiple
pub multiple_left : (m n : ℕ) → m ∣ common_multiple m n
multiple_left m n = dvd-mul_right m (factor m n)

pub multiple_right : (m n : ℕ) → n ∣ common_multiple m n
multiple_right m n = subst (λ (k : ℕ). n ∣ k) (sym (common m n)) (dvd-mul_right n (other_factor m n))

-- over quotients: m = p g, n = q g, k = a m = b n
shared : (g p q a b m n k : ℕ) → 0 < g → p * g ≡ m → q * g ≡ n → a * m ≡ k → b * n ≡ k → b * q ≡ p * a
shared g p q a b m n k positive pm qn am bn =
    eq_of_mul-eq-mul_right g positive (b * q) (p * a) (omega (arith, ap (λ x. b * x) qn, ap (λ x. a * x) pm, am, bn))

regrouped : (m q a c k : ℕ) → c * q ≡ a → a * m ≡ k → c * (m * q) ≡ k
regrouped m q a c k is am = omega (arith, ap (λ x. x * m) is, am)

pub least_multiple : (m n k : ℕ) → 0 < m → 0 < n → 0 < k → m ∣ k → n ∣ k → common_multiple m n ∣ k
least_multiple m n k some other positive left right =
    let g = gcd m n in
    let is = gcd-is m n in
    let a = k / m in
    let am = div-mul_cancel m left in
    let crossed = shared g (m / g) (n / g) a (k / n) m n k (pos_of_dvd_of_pos is.0 some) (div-mul_cancel g is.0) (div-mul_cancel g is.1) am
    (div-mul_cancel n right) in
    let into = divides_other (m / g) (n / g) a (quotient_positive m k left positive) (gcd-quotients m n other)
    (subst (λ (x : ℕ). n / g ∣ x) crossed (dvd-mul_left (n / g) (k / n))) in
    subst (λ (x : ℕ). m * (n / g) ∣ x) (regrouped m (n / g) a (a / (n / g)) k (div-mul_cancel (n / g) into) am)
    (dvd-mul_left (m * (n / g)) (a / (n / g)))

-- ---- sizes
scaled_quotient : (d e p q f : ℕ) → 0 < d → p * d ≡ e * f → q * d ≡ e → p ≡ q * f
scaled_quotient d e p q f positive one two = eq_of_mul-eq-mul_right d positive p (q * f) (omega (arith, one, ap (λ x. x * f) two))

-- over f times e a size is f times as great
pub size_scaled : (e f : ℕ) (x : ℚ) → x.denominator ∣ e → size_over (e * f) x ≡ size_over e x * f
size_scaled e f x h =
    let d = x.denominator in
    let is = scaled_quotient d e (e * f / d) (e / d) f (denominator_positive x)
    (div-mul_cancel d (divides_on _ _ _ h (dvd-mul_right e f))) (div-mul_cancel d h) in
    omega (arith, ap (λ q. unsigned_abs x.numerator * q) is)

-- ---- denominators of lists
pub one_divides : (m : ℕ) → 1 ∣ m
one_divides m = let one : 1 * m ≡ m = omega arith in subst (λ (k : ℕ). 1 ∣ k) one (dvd-mul_right 1 m)

over_multiple : (e : ℕ) (xs : List ℚ) → e ∣ denominator_over e xs
over_multiple e [] = dvd_refl e
over_multiple e (x ∷ xs) = divides_on _ _ _ (over_multiple e xs) (multiple_left (denominator_over e xs) x.denominator)

over_each : (e : ℕ) (xs : List ℚ) (k : ℕ) → (fraction_in xs k).denominator ∣ denominator_over e xs
over_each e [] k = one_divides e
over_each e (x ∷ xs) zero = multiple_right (denominator_over e xs) x.denominator
over_each e (x ∷ xs) (suc k) = divides_on _ _ _ (over_each e xs k) (multiple_left (denominator_over e xs) x.denominator)

over_divides : (e m : ℕ) (xs : List ℚ) → 0 < e → 0 < m → e ∣ m → ((k : ℕ) → (fraction_in xs k).denominator ∣ m) → denominator_over e xs ∣ m
over_divides e m [] p q h each = h
over_divides e m (x ∷ xs) p q h each =
    least_multiple (denominator_over e xs) x.denominator m (omega (arith, p, over_least e xs)) (denominator_positive x) q
    (over_divides e m xs p q h (λ k. each (suc k))) (each 0)

pub rows_positive : (rows : List (List ℚ)) → 0 < rows_denominator rows
rows_positive [] = omega arith
rows_positive (row ∷ rows) = omega (arith, rows_positive rows, over_least (rows_denominator rows) row)

pub rows_each : (rows : List (List ℚ)) (i k : ℕ) → (fraction_in (row_of rows i) k).denominator ∣ rows_denominator rows
rows_each [] i k = one_divides 1
rows_each (row ∷ rows) zero k = over_each (rows_denominator rows) row k
rows_each (row ∷ rows) (suc i) k = divides_on _ _ _ (rows_each rows i k) (over_multiple (rows_denominator rows) row)

pub rows_divide : (rows : List (List ℚ)) (m : ℕ) → 0 < m → ((i k : ℕ) → (fraction_in (row_of rows i) k).denominator ∣ m)
    → rows_denominator rows ∣ m
rows_divide [] m q each = one_divides m
rows_divide (row ∷ rows) m q each =
    over_divides (rows_denominator rows) m row (rows_positive rows) q (rows_divide rows m q (λ i k. each (suc i) k)) (λ k. each 0 k)

-- ---- denominators of entries
with_multiple : (e : ℕ) (given : Option ℚ) → e ∣ multiple_with e given
with_multiple e None = dvd_refl e
with_multiple e (Some x) = multiple_left e x.denominator

with_each : (e : ℕ) (given : Option ℚ) (x : ℚ) → given ≡ Some x → x.denominator ∣ multiple_with e given
with_each e None x h = absurd (none-some x h)
with_each e (Some y) x h =
    subst (λ (z : ℚ). z.denominator ∣ common_multiple e y.denominator) (same_Some y x h) (multiple_right e y.denominator)

pub entries_positive : (entries : List (Option ℚ)) → 0 < entries_denominator entries
entries_positive [] = omega arith
entries_positive (given ∷ entries) = omega (arith, entries_positive entries, with_least (entries_denominator entries) given)

pub entries_each : (entries : List (Option ℚ)) (i : ℕ) (x : ℚ) → entry entries i ≡ Some x → x.denominator ∣ entries_denominator entries
entries_each [] i x h = absurd (none-some x h)
entries_each (given ∷ entries) zero x h = with_each (entries_denominator entries) given x h
entries_each (given ∷ entries) (suc i) x h = divides_on _ _ _ (entries_each entries i x h) (with_multiple
    (entries_denominator entries) given)

pub entries_divide : (entries : List (Option ℚ)) (m : ℕ) → 0 < m
    → ((i : ℕ) (x : ℚ) → entry entries i ≡ Some x → x.denominator ∣ m) → entries_denominator entries ∣ m
entries_divide [] m q each = one_divides m
entries_divide (None ∷ entries) m q each = entries_divide entries m q (λ i x h. each (suc i) x h)
entries_divide (Some x ∷ entries) m q each =
    least_multiple (entries_denominator entries) x.denominator m (entries_positive entries) (denominator_positive x) q
    (entries_divide entries m q (λ i y h. each (suc i) y h)) (each 0 x refl)
