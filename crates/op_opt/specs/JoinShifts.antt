-- Join two shifts: of one direction where they come to fewer than all bits, and a left one before a right one where no used value loses
-- bits.
use Rattle.std.specs.Prelude.{ℕ, ◌+◌, ◌-◌, ◌^◌, Bool, ◌||◌, not, if◌then◌else◌, nat_lt, nat_le, List, ◌∷◌, Option, Some, None}
use Rattle.std.specs.Option.{option_and_then}
use Rattle.frac_math.specs.Fraction.{ℚ, nat, is_at_most}
use Rattle.op_list.specs.declared.types.Stage.{Stage}
use Rattle.op_list.specs.declared.op.Op.{Op}
use Rattle.op_list.specs.declared.op.Op.TheVariants.{LeftShift, RightShift}
use Rattle.op_list.specs.Types.{bits_at}
use Rattle.op_range.specs.declared.range.ValueRange.{ValueRange}
use Rattle.op_range.specs.Ranges.{range_in, is_there_and}
use Rattle.op_range.specs.Used.{is_used, used_from}
use Rattle.op_opt.specs.declared.change.Change.{Change}
use Rattle.op_opt.specs.Changes.{taking}
use Rattle.op_opt.specs.OfFour.{all_of_four}

-- numbers up to this bound, times 2^n, are below 2^bits: they are below 2^(bits - n)
abbrev pub has_room : ℕ → ℕ → Option ℚ → Bool
has_room bits n greatest = is_there_and (λ most. not (is_at_most (nat (2 ^ (bits - n))) most)) greatest

abbrev pub used_have_room : ℕ → ℕ → List Bool → List ValueRange → Bool
used_have_room bits n used ranges = all_of_four (λ i. not (is_used used i) || has_room bits n (range_in ranges i).greatest)

-- a shift by a to the left and then by b to the right
abbrev pub shift_between : ℕ → ℕ → Op
shift_between a b = if nat_le b a then LeftShift (a - b) else RightShift (b - a)

-- a shift by both, where they come to fewer than all bits
abbrev pub sum_below : ℕ → ℕ → ℕ → Option ℕ
sum_below bits a b = if nat_lt (a + b) bits then Some (a + b) else None

unfoldable pub join_shifts : Stage → List ValueRange → List Op → Option Change
join_shifts stage ranges (LeftShift a ∷ LeftShift b ∷ rest) =
    option_and_then (λ n. taking 2 (Some (LeftShift n))) (sum_below (bits_at stage) a b)
join_shifts stage ranges (RightShift a ∷ RightShift b ∷ rest) =
    option_and_then (λ n. taking 2 (Some (RightShift n))) (sum_below (bits_at stage) a b)
join_shifts stage ranges (LeftShift a ∷ RightShift b ∷ rest) =
    if used_have_room (bits_at stage) a (used_from rest) ranges then taking 2 (Some (shift_between a b)) else None
join_shifts stage ranges ops = None
