-- No dither where each used value is whole, and only what keeps floors the same stands before the next Convert to a whole type.
use Rattle.std.specs.Prelude.{Bool, false, ◌&&◌, ◌||◌, not, if◌then◌else◌, List, ◌∷◌, Option, None}
use Rattle.frac_math.specs.Fraction.{ℚ}
use Rattle.op_list.specs.declared.op.Op.{Op}
use Rattle.op_list.specs.declared.op.Op.TheVariants.{Clear, Swizzle, Convert, Dither, Min, Max}
use Rattle.op_list.specs.Types.{is_whole_type}
use Rattle.op_list.specs.Values.{entry}
use Rattle.op_range.specs.declared.range.ValueRange.{ValueRange}
use Rattle.op_range.specs.Ranges.{range_in, is_whole_limit}
use Rattle.op_range.specs.Used.{is_used, used_from}
use Rattle.op_opt.specs.declared.change.Change.{Change}
use Rattle.op_opt.specs.Changes.{taking}
use Rattle.op_opt.specs.OfFour.{all_of_four}

-- each entry that is given is whole
abbrev pub are_whole : List (Option ℚ) → Bool
are_whole entries = all_of_four (λ i. is_whole_limit (entry entries i))

-- operations that keep equal floors equal, up to a Convert to a whole type
unfoldable pub lead_to_floors : List Op → Bool
lead_to_floors (Convert to expand ∷ rest) = is_whole_type to
lead_to_floors (Swizzle from ∷ rest) = lead_to_floors rest
lead_to_floors (Clear entries ∷ rest) = are_whole entries && lead_to_floors rest
lead_to_floors (Min limits ∷ rest) = are_whole limits && lead_to_floors rest
lead_to_floors (Max limits ∷ rest) = are_whole limits && lead_to_floors rest
lead_to_floors ops = false

unfoldable pub drop_dither : List ValueRange → List Op → Option Change
drop_dither ranges (Dither k ∷ rest) =
    if all_of_four (λ i. not (is_used (used_from rest) i) || (range_in ranges i).whole) && lead_to_floors rest then taking 1 None else None
drop_dither ranges ops = None
