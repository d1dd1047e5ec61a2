-- Entries of a Clear, a Min or a Max.
use Rattle.std.specs.Prelude.{ℕ, Bool, not, if◌then◌else◌, nat_eq, List, Option, None}
use Rattle.frac_math.specs.Fraction.{ℚ}
use Rattle.op_list.specs.Values.{four, entry}
use Rattle.op_range.specs.Used.{is_missing}

abbrev pub is_given : Option ℚ → Bool
is_given e = not (is_missing e)

-- the entries without that of value i
abbrev pub without : List (Option ℚ) → ℕ → List (Option ℚ)
without entries i = four (λ j. if nat_eq j i then None else entry entries j)
