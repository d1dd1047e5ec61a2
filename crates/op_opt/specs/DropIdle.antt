-- Drop an idle operation: one that leaves each used value as it is.
use Rattle.std.specs.Prelude.{Bool, false, ◌&&◌, ◌||◌, not, if◌then◌else◌, nat_eq, List, [], ◌∷◌, slice_index, Option, None}
use Rattle.frac_math.specs.Fraction.{ℚ, nat, equal_ℚ}
use Rattle.op_list.specs.declared.types.Stage.{Stage}
use Rattle.op_list.specs.declared.op.Op.{Op}
use Rattle.op_list.specs.declared.op.Op.TheVariants.{Read, Write, SwapBytes, Unpack, Pack, Clear, LeftShift, RightShift, Swizzle, Convert}
use Rattle.op_list.specs.declared.op.Op.TheVariants.{Dither, Linear, Scale, Min, Max}
use Rattle.op_list.specs.Types.{has_type}
use Rattle.op_list.specs.Values.{entry}
use Rattle.op_list.specs.Apply.{row_of}
use Rattle.op_list.specs.Identity.{is_identity_row}
use Rattle.op_range.specs.Used.{is_used, is_missing, used_from}
use Rattle.op_opt.specs.declared.change.Change.{Change}
use Rattle.op_opt.specs.Changes.{taking}
use Rattle.op_opt.specs.OfFour.{all_of_four}

-- no entry is given
abbrev pub are_missing : List (Option ℚ) → Bool
are_missing entries = all_of_four (λ i. is_missing (entry entries i))

-- whether an operation is idle, from the values that are used after it
unfoldable pub is_idle : Stage → List Bool → Op → Bool
is_idle stage used (Read elem planes palette) = false
is_idle stage used (Write elem planes) = false
is_idle stage used SwapBytes = false
is_idle stage used (Unpack widths) = false
is_idle stage used (Pack widths) = false
is_idle stage used (Clear entries) = are_missing entries
is_idle stage used (LeftShift n) = nat_eq n 0
is_idle stage used (RightShift n) = nat_eq n 0
is_idle stage used (Swizzle from) = all_of_four (λ i. not (is_used used i) || nat_eq (slice_index from i) i)
is_idle stage used (Convert to expand) = has_type to stage && not expand
is_idle stage used (Dither k) = false
is_idle stage used (Linear rows) = all_of_four (λ i. not (is_used used i) || is_identity_row i (row_of rows i))
is_idle stage used (Scale by) = equal_ℚ by (nat 1)
is_idle stage used (Min limits) = are_missing limits
is_idle stage used (Max limits) = are_missing limits

unfoldable pub drop_idle : Stage → List Op → Option Change
drop_idle stage [] = None
drop_idle stage (op ∷ rest) = if is_idle stage (used_from rest) op then taking 1 None else None
