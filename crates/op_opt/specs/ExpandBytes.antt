-- Expand bytes by a conversion: bytes that become fractions, 257 times as great, and then words.
use Rattle.std.specs.Prelude.{ℕ, Bool, true, ◌&&◌, ◌||◌, not, if◌then◌else◌, nat_eq, List, ◌∷◌, Option, Some, None}
use Rattle.frac_math.specs.Fraction.{ℚ, nat, equal_ℚ}
use Rattle.op_list.specs.declared.types.PixType.{PixType}
use Rattle.op_list.specs.declared.types.PixType.TheVariants.{U8, U16, Rat}
use Rattle.op_list.specs.declared.types.Stage.{Stage}
use Rattle.op_list.specs.declared.op.Op.{Op}
use Rattle.op_list.specs.declared.op.Op.TheVariants.{Convert, Linear, Scale}
use Rattle.op_list.specs.Types.{is_same, has_type}
use Rattle.op_list.specs.Values.{fraction_in}
use Rattle.op_list.specs.Apply.{row_of}
use Rattle.op_range.specs.Used.{is_used, used_from}
use Rattle.op_opt.specs.declared.change.Change.{Change}
use Rattle.op_opt.specs.Changes.{taking}
use Rattle.op_opt.specs.OfFour.{all_of_four}

-- coefficient j of the row that gives 257 times value i
abbrev pub expanding_coefficient : ℕ → ℕ → ℚ
expanding_coefficient i j = if nat_eq j i then nat 257 else nat 0

unfoldable pub is_expanding_row : ℕ → List ℚ → Bool
is_expanding_row i row =
    equal_ℚ (fraction_in row 0) (expanding_coefficient i 0) && equal_ℚ (fraction_in row 1) (expanding_coefficient i 1)
    && equal_ℚ (fraction_in row 2) (expanding_coefficient i 2) && equal_ℚ (fraction_in row 3) (expanding_coefficient i 3)
    && equal_ℚ (fraction_in row 4) (expanding_coefficient i 4)

abbrev pub expands_used : List Bool → List (List ℚ) → Bool
expands_used used rows = all_of_four (λ i. not (is_used used i) || is_expanding_row i (row_of rows i))

-- from bytes to fractions, and from fractions to words
abbrev pub goes_through_fractions : Stage → PixType → PixType → Bool
goes_through_fractions stage by to = has_type U8 stage && is_same by Rat && is_same to U16

unfoldable pub expand_bytes : Stage → List Op → Option Change
expand_bytes stage (Convert by first ∷ Scale factor ∷ Convert to last ∷ rest) =
    if goes_through_fractions stage by to && equal_ℚ factor (nat 257) then taking 3 (Some (Convert U16 true)) else None
expand_bytes stage (Convert by first ∷ Linear rows ∷ Convert to last ∷ rest) =
    if goes_through_fractions stage by to && expands_used (used_from rest) rows then taking 3 (Some (Convert U16 true)) else None
expand_bytes stage ops = None
