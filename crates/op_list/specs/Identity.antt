-- Rows of a linear map that give a value back.
use Rattle.std.specs.Prelude.{ℕ, Bool, ◌&&◌, if◌then◌else◌, nat_eq, List}
use Rattle.frac_math.specs.Fraction.{ℚ, nat, equal_ℚ}
use Rattle.op_list.specs.Values.{fraction_in}

-- coefficient j of the row that gives value i back: 1 for the value itself, and 0 for the others and for the constant
abbrev pub identity_coefficient : ℕ → ℕ → ℚ
identity_coefficient i j = if nat_eq j i then nat 1 else nat 0

-- the row gives value i back, whatever the four values are
unfoldable pub is_identity_row : ℕ → List ℚ → Bool
is_identity_row i row =
    equal_ℚ (fraction_in row 0) (identity_coefficient i 0) && equal_ℚ (fraction_in row 1) (identity_coefficient i 1)
    && equal_ℚ (fraction_in row 2) (identity_coefficient i 2) && equal_ℚ (fraction_in row 3) (identity_coefficient i 3)
    && equal_ℚ (fraction_in row 4) (identity_coefficient i 4)
