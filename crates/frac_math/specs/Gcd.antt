-- The greatest common divisor by Euclid's divisions, and lowest terms.
use Rattle.std.specs.Prelude.{ℕ, zero, suc, ◌%◌, Bool, ◌&&◌, nat_lt, nat_eq, ℤ, unsigned_abs}

-- the last number that is not 0; `steps` bounds the divisions
abbrev pub gcd_within : ℕ → ℕ → ℕ → ℕ
gcd_within zero a b = a
gcd_within (suc steps) a zero = a
gcd_within (suc steps) a (suc b) = gcd_within steps (suc b) (a % suc b)

-- each division leaves less than b, so b + 1 steps are enough
unfoldable pub gcd : ℕ → ℕ → ℕ
gcd a b = gcd_within (suc b) a b

-- n/d is in lowest terms: d is not 0, and only 1 divides both
abbrev pub is_lowest : ℤ → ℕ → Bool
is_lowest n d = nat_lt 0 d && nat_eq (gcd (unsigned_abs n) d) 1
