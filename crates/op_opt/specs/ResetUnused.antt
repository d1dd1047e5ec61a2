-- Reset what is not used: the row, or the index, of the lowest value that is not used after it is made the identity.
use Rattle.std.specs.Prelude.{ℕ, ◌&&◌, not, if◌then◌else◌, nat_eq, List, [], ◌∷◌, slice_index, Option, Some, None}
use Rattle.std.specs.Option.{option_and_then}
use Rattle.frac_math.specs.Fraction.{ℚ}
use Rattle.op_list.specs.declared.op.Op.{Op}
use Rattle.op_list.specs.declared.op.Op.TheVariants.{Swizzle, Linear}
use Rattle.op_list.specs.Apply.{row_of}
use Rattle.op_list.specs.Values.{four}
use Rattle.op_list.specs.Identity.{identity_coefficient, is_identity_row}
use Rattle.op_range.specs.Used.{is_used, used_from}
use Rattle.op_opt.specs.declared.change.Change.{Change}
use Rattle.op_opt.specs.Changes.{taking}
use Rattle.op_opt.specs.OfFour.{lowest}

-- the row that gives value i back
abbrev pub identity_row : ℕ → List ℚ
identity_row i =
    identity_coefficient i 0 ∷ identity_coefficient i 1 ∷ identity_coefficient i 2 ∷ identity_coefficient i 3 ∷ identity_coefficient i 4
    ∷ []

-- the rows, and the indices, with the identity for value i
abbrev pub reset_row : List (List ℚ) → ℕ → List (List ℚ)
reset_row rows i = four (λ j. if nat_eq j i then identity_row j else row_of rows j)

abbrev pub reset_index : List ℕ → ℕ → List ℕ
reset_index from i = four (λ j. if nat_eq j i then j else slice_index from j)

unfoldable pub reset_unused : List Op → Option Change
reset_unused (Linear rows ∷ rest) =
    option_and_then (λ i. taking 1 (Some (Linear (reset_row rows i))))
    (lowest (λ i. not (is_used (used_from rest) i) && not (is_identity_row i (row_of rows i))))
reset_unused (Swizzle from ∷ rest) =
    option_and_then (λ i. taking 1 (Some (Swizzle (reset_index from i))))
    (lowest (λ i. not (is_used (used_from rest) i) && not (nat_eq (slice_index from i) i)))
reset_unused ops = None
