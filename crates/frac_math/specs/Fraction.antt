-- Exact fractions. Each is in lowest terms over a denominator that is not 0, so `≡` is equality of the values.
use Rattle.std.specs.Prelude.{ℕ, zero, suc, ◌*◌, ◌/◌, Bool, T, if◌then◌else◌, ◌&&◌, nat_eq, ℤ, pos, negsuc, ◌+ℤ◌, ◌*ℤ◌, ◌≤ℤ◌, ◌<ℤ◌, neg_ℤ}
use Rattle.std.specs.Prelude.{int_le, int_div, unsigned_abs}
use Rattle.std.specs.Int.{int_div_euclid}
use Rattle.std.specs.Ordering.{int_eq, int_cmp}
use Rattle.std.specs.declared.cmp.Ordering.{Ordering}
use Rattle.frac_math.specs.Gcd.{gcd, is_lowest}
use Rattle.std.proofs.Math.Nat.{zero-lt-suc}
use Rattle.frac_math.specs.LowestTerms.{whole_lowest, quotients_lowest}

-- a fraction: its numerator with the sign, and its denominator, in lowest terms
pub record ℚ : Type 0 where
  pub numerator : ℤ
  pub denominator : ℕ
  pub lowest : T (is_lowest numerator denominator)

-- n/1
abbrev pub whole : ℤ → ℚ
whole n = record { numerator = n; denominator = 1; lowest = whole_lowest n }

-- n/1 of a natural number
abbrev pub nat : ℕ → ℚ
nat n = whole (pos n)

-- n/d, both divided by their greatest common divisor; n/0 counts as 0
unfoldable pub over : ℤ → ℕ → ℚ
over n zero = whole (pos 0)
over n (suc d) =
    let g = gcd (unsigned_abs n) (suc d) in
    record { numerator = int_div n (pos g); denominator = suc d / g; lowest = quotients_lowest n (suc d) (zero-lt-suc d) }

-- n/d, where d may be negative
unfoldable pub ratio : ℤ → ℤ → ℚ
ratio n (pos d) = over n d
ratio n (negsuc d) = over (neg_ℤ n) (suc d)

infixl 60 ◌+ℚ◌ ◌-ℚ◌
infixl 70 ◌*ℚ◌ ◌/ℚ◌
infix 50 ◌≤ℚ◌ ◌<ℚ◌
-- a/b + c/d = (a d + c b)/(b d)
unfoldable pub ◌+ℚ◌ : ℚ → ℚ → ℚ
x +ℚ y = over (x.numerator *ℤ pos y.denominator +ℤ y.numerator *ℤ pos x.denominator) (x.denominator * y.denominator)

-- a/b * c/d = (a c)/(b d)
unfoldable pub ◌*ℚ◌ : ℚ → ℚ → ℚ
x *ℚ y = over (x.numerator *ℤ y.numerator) (x.denominator * y.denominator)

-- -(a/b) = (-a)/b
unfoldable pub neg_ℚ : ℚ → ℚ
neg_ℚ x = over (neg_ℤ x.numerator) x.denominator

-- x - y = x + (-y)
abbrev pub ◌-ℚ◌ : ℚ → ℚ → ℚ
x -ℚ y = x +ℚ neg_ℚ y

-- the inverse of a/b is b/a, and that of 0 counts as 0
unfoldable pub inverse : ℚ → ℚ
inverse x = ratio (pos x.denominator) x.numerator

-- x / y = x * (1 / y)
abbrev pub ◌/ℚ◌ : ℚ → ℚ → ℚ
x /ℚ y = x *ℚ inverse y

-- a/b is at most c/d where a d is at most c b
pub record ◌≤ℚ◌ (x y : ℚ) : Type 0 where
  pub at_most : (x.numerator *ℤ pos y.denominator) ≤ℤ (y.numerator *ℤ pos x.denominator)

-- a/b is below c/d where a d is below c b
pub record ◌<ℚ◌ (x y : ℚ) : Type 0 where
  pub below : (x.numerator *ℤ pos y.denominator) <ℤ (y.numerator *ℤ pos x.denominator)

-- the order as an `Ordering`
unfoldable pub order : ℚ → ℚ → Ordering
order x y = int_cmp (x.numerator *ℤ pos y.denominator) (y.numerator *ℤ pos x.denominator)

-- whether x is at most y
unfoldable pub is_at_most : ℚ → ℚ → Bool
is_at_most x y = int_le (x.numerator *ℤ pos y.denominator) (y.numerator *ℤ pos x.denominator)

-- whether x is y
unfoldable pub equal_ℚ : ℚ → ℚ → Bool
equal_ℚ x y = int_eq x.numerator y.numerator && nat_eq x.denominator y.denominator

-- the lesser of two
unfoldable pub min_ℚ : ℚ → ℚ → ℚ
min_ℚ x y = if is_at_most x y then x else y

-- the greater of two
unfoldable pub max_ℚ : ℚ → ℚ → ℚ
max_ℚ x y = if is_at_most x y then y else x

-- the greatest whole number that is not above x: for a positive divisor, Euclid's quotient
unfoldable pub floor : ℚ → ℤ
floor x = int_div_euclid x.numerator (pos x.denominator)
