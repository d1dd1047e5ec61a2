-- Which operations may follow one another, and with which arguments.
use Rattle.std.specs.Prelude.{◌≡◌, ℕ, zero, suc, ◌^◌, Bool, true, false, not, ◌&&◌, ◌||◌, nat_eq, nat_lt, nat_le, List, [], ◌∷◌, sum}
use Rattle.std.specs.Prelude.{length, Option, Some, None, ℤ, pos, negsuc, ◌≤◌}
use Rattle.std.specs.List.{list_all}
use Rattle.std.specs.Str.{bytes_eq}
use Rattle.frac_math.specs.Fraction.{ℚ}
use Rattle.op_list.specs.declared.types.PixType.TheVariants.{U8, U16}
use Rattle.op_list.specs.declared.types.Stage.{Stage}
use Rattle.op_list.specs.declared.types.Stage.TheVariants.{Start, Typed, Ended}
use Rattle.op_list.specs.declared.op.Op.{Op}
use Rattle.op_list.specs.declared.op.Op.TheVariants.{Read, Write, SwapBytes, Unpack, Pack, Clear, LeftShift, RightShift, Swizzle, Convert}
use Rattle.op_list.specs.declared.op.Op.TheVariants.{Dither, Linear, Scale, Min, Max}
use Rattle.op_list.specs.Types.{is_same, is_start, is_typed, has_type, is_whole, is_wide, is_rational, is_whole_type, bits_at}

-- whether an operation of this kind may follow: the type that its values have before it
unfoldable pub may_follow : Stage → Op → Bool
may_follow stage (Read elem planes palette) = is_start stage
may_follow stage (Write elem planes) = has_type elem stage
may_follow stage SwapBytes = is_wide stage
may_follow stage (Unpack widths) = is_whole stage
may_follow stage (Pack widths) = is_whole stage
may_follow stage (Clear values) = is_typed stage
may_follow stage (LeftShift n) = is_whole stage
may_follow stage (RightShift n) = is_whole stage
may_follow stage (Swizzle from) = is_typed stage
may_follow stage (Convert to expand) = is_typed stage
may_follow stage (Dither k) = is_rational stage
may_follow stage (Linear rows) = is_rational stage
may_follow stage (Scale by) = is_rational stage
may_follow stage (Min limits) = is_rational stage
may_follow stage (Max limits) = is_rational stage

abbrev pub is_write : Op → Bool
is_write (Write elem planes) = true
is_write _ = false

-- what the operation leaves
unfoldable pub stage_after : Stage → Op → Stage
stage_after stage (Read elem planes palette) = Typed elem
stage_after stage (Write elem planes) = Ended
stage_after stage SwapBytes = stage
stage_after stage (Unpack widths) = stage
stage_after stage (Pack widths) = stage
stage_after stage (Clear values) = stage
stage_after stage (LeftShift n) = stage
stage_after stage (RightShift n) = stage
stage_after stage (Swizzle from) = stage
stage_after stage (Convert to expand) = Typed to
stage_after stage (Dither k) = stage
stage_after stage (Linear rows) = stage
stage_after stage (Scale by) = stage
stage_after stage (Min limits) = stage
stage_after stage (Max limits) = stage

-- no 0 stands before a number above 0
abbrev pub are_in_front : List ℕ → Bool
are_in_front [] = true
are_in_front (zero ∷ ns) = list_all (λ n. nat_eq n 0) ns
are_in_front (suc n ∷ ns) = are_in_front ns

-- counts of elements or of bits: from 1 to `most` in all, and those above 0 come first
abbrev pub are_counts : ℕ → List ℕ → Bool
are_counts most ns = are_in_front ns && nat_le 1 (sum ns) && nat_le (sum ns) most

-- a whole number from 0 to 2^bits - 1
abbrev pub is_below : ℕ → ℤ → Bool
is_below limit (pos n) = nat_lt n limit
is_below limit (negsuc n) = false

abbrev pub fits_bits : ℕ → ℚ → Bool
fits_bits count x = nat_eq x.denominator 1 && is_below (2 ^ count) x.numerator

-- the entries that are given fit
abbrev pub entry_fits : ℕ → Option ℚ → Bool
entry_fits count None = true
entry_fits count (Some x) = fits_bits count x

abbrev pub all_fit : ℕ → List (Option ℚ) → Bool
all_fit count [] = true
all_fit count (value ∷ values) = entry_fits count value && all_fit count values

-- whether the arguments are good, at the type that the values have before
unfoldable pub are_good : Stage → Op → Bool
are_good stage (Read elem planes palette) =
    is_whole_type elem && are_counts 4 planes && (not palette || (is_same elem U8 && bytes_eq planes (1 ∷ 0 ∷ 0 ∷ 0 ∷ [])))
are_good stage (Write elem planes) = is_whole_type elem && are_counts 4 planes
are_good stage SwapBytes = true
are_good stage (Unpack widths) = are_counts (bits_at stage) widths
are_good stage (Pack widths) = are_counts (bits_at stage) widths
are_good stage (Clear values) = is_rational stage || all_fit (bits_at stage) values
are_good stage (LeftShift n) = nat_lt n (bits_at stage)
are_good stage (RightShift n) = nat_lt n (bits_at stage)
are_good stage (Swizzle from) = list_all (λ i. nat_lt i 4) from
are_good stage (Convert to expand) = not expand || (has_type U8 stage && is_same to U16)
are_good stage (Dither k) = nat_le k 4
are_good stage (Linear rows) = true
are_good stage (Scale by) = true
are_good stage (Min limits) = true
are_good stage (Max limits) = true

-- what a list leaves
unfoldable pub stage_from : Stage → List Op → Stage
stage_from stage [] = stage
stage_from stage (op ∷ ops) = stage_from (stage_after stage op) ops

-- each operation may follow those before it, and has good arguments
unfoldable pub are_typed : Stage → List Op → Bool
are_typed stage [] = true
are_typed stage (op ∷ ops) = may_follow stage op && are_good stage op && are_typed (stage_after stage op) ops

-- what a whole list leaves
abbrev pub stage_of : List Op → Stage
stage_of ops = stage_from Start ops

-- a list of operations is well typed, and has at most 24 of them
pub record IsOpList (ops : List Op) : Type 0 where
  pub typed : are_typed Start ops ≡ true
  pub size : length ops ≤ 24

-- what a list keeps beside its operations
pub record LeavesStage (ops : List Op) (stage : Stage) : Type 0 where
  pub sound : IsOpList ops
  pub last : stage ≡ stage_of ops

-- the list ends with a Write
unfoldable pub ends_with_write : List Op → Bool
ends_with_write [] = false
ends_with_write (op ∷ []) = is_write op
ends_with_write (op ∷ next ∷ ops) = ends_with_write (next ∷ ops)
