-- The exact calls on numbers of 128 bits: which numbers have to fit, and what each call answers.
use Rattle.std.specs.Prelude.{◌≢◌, ◌^◌, Bool, not, ◌&&◌, nat_lt, if◌then◌else◌, Option, Some, None, ℤ, pos, negsuc, ◌+ℤ◌, ◌*ℤ◌, FitsSigned}
use Rattle.std.specs.Ordering.{int_eq}
use Rattle.std.specs.Int.{w128, int_signum}
use Rattle.frac_math.specs.Fraction.{ℚ, ratio, ◌+ℚ◌, ◌*ℚ◌, ◌/ℚ◌}

-- z lies from -2^127 to 2^127 - 1
abbrev pub Fits : ℤ → Type 0
Fits z = FitsSigned w128 z

-- whether z lies from -2^127 to 2^127 - 1
abbrev pub is_i128 : ℤ → Bool
is_i128 (pos n) = nat_lt n (2 ^ 127)
is_i128 (negsuc n) = nat_lt n (2 ^ 127)

-- d is not 0, and both numbers of n/d in lowest terms fit
pub record RatioFits (n d : ℤ) : Type 0 where
  pub divisor : d ≢ pos 0
  pub numerator : Fits (ratio n d).numerator
  pub denominator : Fits (pos (ratio n d).denominator)

-- n/d where its numbers fit, else none
unfoldable pub checked_ratio : ℤ → ℤ → Option ℚ
checked_ratio n d =
    if not (int_eq d (pos 0)) && is_i128 (ratio n d).numerator && is_i128 (pos (ratio n d).denominator) then Some (ratio n d) else None

-- of a/b + c/d the numbers a d, c b, a d + c b and b d fit
pub record SumFits (x y : ℚ) : Type 0 where
  pub left : Fits (x.numerator *ℤ pos y.denominator)
  pub right : Fits (y.numerator *ℤ pos x.denominator)
  pub sum : Fits (x.numerator *ℤ pos y.denominator +ℤ y.numerator *ℤ pos x.denominator)
  pub denominator : Fits (pos x.denominator *ℤ pos y.denominator)

-- the sum where its numbers fit, else none
unfoldable pub checked_sum : ℚ → ℚ → Option ℚ
checked_sum x y =
    let left = x.numerator *ℤ pos y.denominator in
    let right = y.numerator *ℤ pos x.denominator in
    if is_i128 left && is_i128 right && is_i128 (left +ℤ right) && is_i128 (pos x.denominator *ℤ pos y.denominator) then Some (x +ℚ y)
    else None

-- of a/b * c/d the numbers a c and b d fit
pub record ProductFits (x y : ℚ) : Type 0 where
  pub numerator : Fits (x.numerator *ℤ y.numerator)
  pub denominator : Fits (pos x.denominator *ℤ pos y.denominator)

-- the product where its numbers fit, else none
unfoldable pub checked_product : ℚ → ℚ → Option ℚ
checked_product x y =
    if is_i128 (x.numerator *ℤ y.numerator) && is_i128 (pos x.denominator *ℤ pos y.denominator) then Some (x *ℚ y) else None

-- of a/b divided by c/d the numbers a d s and b c s fit, where s is the sign of c, and c is not 0
pub record QuotientFits (x y : ℚ) : Type 0 where
  pub divisor : y.numerator ≢ pos 0
  pub numerator : Fits (x.numerator *ℤ pos y.denominator *ℤ int_signum y.numerator)
  pub denominator : Fits (pos x.denominator *ℤ y.numerator *ℤ int_signum y.numerator)

-- the quotient where its numbers fit, else none
unfoldable pub checked_quotient : ℚ → ℚ → Option ℚ
checked_quotient x y =
    let sign = int_signum y.numerator in
    let numerator = x.numerator *ℤ pos y.denominator *ℤ sign in
    let denominator = pos x.denominator *ℤ y.numerator *ℤ sign in
    if not (int_eq y.numerator (pos 0)) && is_i128 numerator && is_i128 denominator then Some (x /ℚ y) else None
