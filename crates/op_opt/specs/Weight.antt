-- The weight of a list, which each pass lowers.
use Rattle.std.specs.Prelude.{ℕ, ◌+◌, not, nat_eq, List, [], ◌∷◌, slice_index, Option}
use Rattle.frac_math.specs.Fraction.{ℚ}
use Rattle.op_list.specs.declared.op.Op.{Op}
use Rattle.op_list.specs.declared.op.Op.TheVariants.{Read, Write, SwapBytes, Unpack, Pack, Clear, LeftShift, RightShift, Swizzle, Convert}
use Rattle.op_list.specs.declared.op.Op.TheVariants.{Dither, Linear, Scale, Min, Max}
use Rattle.op_list.specs.Values.{entry}
use Rattle.op_list.specs.Identity.{is_identity_row}
use Rattle.op_list.specs.Apply.{row_of}
use Rattle.op_opt.specs.Entries.{is_given}
use Rattle.op_opt.specs.OfFour.{count_of_four}

-- the entries that are given
abbrev pub entries_of : List (Option ℚ) → ℕ
entries_of entries = count_of_four (λ i. is_given (entry entries i))

unfoldable pub weight_of : Op → ℕ
weight_of (Read elem planes palette) = 64
weight_of (Write elem planes) = 64
weight_of SwapBytes = 64
weight_of (Unpack widths) = 64
weight_of (Pack widths) = 64
weight_of (Clear entries) = 64 + entries_of entries
weight_of (LeftShift n) = 64
weight_of (RightShift n) = 64
weight_of (Swizzle from) = 64 + count_of_four (λ i. not (nat_eq (slice_index from i) i))
weight_of (Convert to expand) = 64
weight_of (Dither k) = 64
weight_of (Linear rows) = 64 + count_of_four (λ i. not (is_identity_row i (row_of rows i)))
weight_of (Scale by) = 64
weight_of (Min limits) = 64 + entries_of limits
weight_of (Max limits) = 64 + entries_of limits

unfoldable pub weight : List Op → ℕ
weight [] = 0
weight (op ∷ ops) = weight_of op + weight ops
