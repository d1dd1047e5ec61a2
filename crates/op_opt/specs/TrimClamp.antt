-- A Min or a Max without the entry of the lowest value that is not used after it, or that lies within the limit before it.
use Rattle.std.specs.Prelude.{Bool, false, ◌&&◌, ◌||◌, not, List, ◌∷◌, Option, Some, None}
use Rattle.std.specs.Option.{option_and_then}
use Rattle.frac_math.specs.Fraction.{ℚ, is_at_most}
use Rattle.op_list.specs.declared.op.Op.{Op}
use Rattle.op_list.specs.declared.op.Op.TheVariants.{Min, Max}
use Rattle.op_list.specs.Values.{entry}
use Rattle.op_range.specs.declared.range.ValueRange.{ValueRange}
use Rattle.op_range.specs.Ranges.{range_in}
use Rattle.op_range.specs.Used.{is_used, used_from}
use Rattle.op_opt.specs.declared.change.Change.{Change}
use Rattle.op_opt.specs.Changes.{taking}
use Rattle.op_opt.specs.Entries.{without, is_given}
use Rattle.op_opt.specs.OfFour.{lowest}

-- both are there, and the first is at most the second
abbrev pub is_known_at_most : Option ℚ → Option ℚ → Bool
is_known_at_most (Some x) (Some y) = is_at_most x y
is_known_at_most None y = false
is_known_at_most (Some x) None = false

unfoldable pub trim_clamp : List ValueRange → List Op → Option Change
trim_clamp ranges (Min limits ∷ rest) =
    option_and_then (λ i. taking 1 (Some (Min (without limits i))))
    (lowest (λ i. is_given (entry limits i) && (not (is_used (used_from rest) i) || is_known_at_most (range_in ranges i).greatest
    (entry limits i))))
trim_clamp ranges (Max limits ∷ rest) =
    option_and_then (λ i. taking 1 (Some (Max (without limits i))))
    (lowest (λ i. is_given (entry limits i) && (not (is_used (used_from rest) i) || is_known_at_most (entry limits i)
    (range_in ranges i).least)))
trim_clamp ranges ops = None
