-- What an operation that may be applied is given.
use Rattle.std.proofs.Common.{◌≡◌, ℕ, ◌<◌, ◌≤◌, Bool, true, false, ◌&&◌, ◌||◌, nat_lt, nat_le, List, All, sum, get_or, refl, sym, ◌∙◌}
use Rattle.std.proofs.Common.{arith, ◌⊎◌, inl, inr}
use Rattle.std.specs.Prelude.{Option}
use Rattle.std.proofs.lemmas.Bool.{and_parts, leb-true, ltb-true}
use Rattle.std.proofs.lemmas.List.Sums.{AllPass-from_list_all}
use Rattle.frac_math.specs.Fraction.{ℚ}
use Rattle.op_list.specs.declared.types.PixType.{PixType}
use Rattle.op_list.specs.declared.types.PixType.TheVariants.{U8, U16, U32, Rat}
use Rattle.op_list.specs.declared.types.Stage.{Stage}
use Rattle.op_list.specs.declared.types.Stage.TheVariants.{Start, Typed, Ended}
use Rattle.op_list.specs.declared.position.PixelPosition.{PixelPosition}
use Rattle.op_list.specs.declared.op.Op.{Op}
use Rattle.op_list.specs.declared.op.Op.TheVariants.{Read, Write, SwapBytes, Unpack, Pack, Clear, LeftShift, RightShift, Swizzle, Convert}
use Rattle.op_list.specs.declared.op.Op.TheVariants.{Dither, Linear, Scale, Min, Max}
use Rattle.op_list.specs.declared.values.Values.{Values}
use Rattle.op_list.specs.Types.{bits_at, is_whole_type, has_type, is_whole, is_wide, is_rational}
use Rattle.op_list.specs.Typing.{may_follow, are_good, are_counts, are_in_front, all_fit}
use Rattle.op_list.specs.Values.{are_fractions}
use Rattle.op_list.specs.Pixel.{IsPixelOf}
use Rattle.op_list.specs.Run.{MayApply}

-- ---- types
pub bits_most : (stage : Stage) → bits_at stage ≤ 32
bits_most Start = omega arith
bits_most Ended = omega arith
bits_most (Typed U8) = omega arith
bits_most (Typed U16) = omega arith
bits_most (Typed U32) = omega arith
bits_most (Typed Rat) = omega arith

pub whole_not_rational : (stage : Stage) → is_whole stage ≡ true → is_rational stage ≡ false
whole_not_rational Start h = cc
whole_not_rational Ended h = cc
whole_not_rational (Typed U8) h = refl
whole_not_rational (Typed U16) h = refl
whole_not_rational (Typed U32) h = refl
whole_not_rational (Typed Rat) h = cc

wide_whole : (stage : Stage) → is_wide stage ≡ true → is_whole stage ≡ true
wide_whole Start h = cc
wide_whole Ended h = cc
wide_whole (Typed U8) h = cc
wide_whole (Typed U16) h = refl
wide_whole (Typed U32) h = refl
wide_whole (Typed Rat) h = cc

pub wide_bits : (stage : Stage) → is_wide stage ≡ true → (bits_at stage ≡ 16) ⊎ (bits_at stage ≡ 32)
wide_bits Start h = cc
wide_bits Ended h = cc
wide_bits (Typed U8) h = cc
wide_bits (Typed U16) h = inl refl
wide_bits (Typed U32) h = inr refl
wide_bits (Typed Rat) h = cc

same_whole : (elem : PixType) (stage : Stage) → has_type elem stage ≡ true → is_whole_type elem ≡ true → is_whole stage ≡ true
same_whole elem Start h w = cc
same_whole elem Ended h w = cc
same_whole elem (Typed U8) h w = refl
same_whole elem (Typed U16) h w = refl
same_whole elem (Typed U32) h w = refl
same_whole U8 (Typed Rat) h w = cc
same_whole U16 (Typed Rat) h w = cc
same_whole U32 (Typed Rat) h w = cc
same_whole Rat (Typed Rat) h w = cc

-- ---- the values before
abbrev pub takes_numbers : Op → Bool
takes_numbers (Write elem planes) = true
takes_numbers SwapBytes = true
takes_numbers (Unpack widths) = true
takes_numbers (Pack widths) = true
takes_numbers (LeftShift n) = true
takes_numbers (RightShift n) = true
takes_numbers _ = false

pub whole_before : (stage : Stage) (op : Op) → takes_numbers op ≡ true → may_follow stage op ≡ true → are_good stage op ≡ true
    → is_whole stage ≡ true
unfolding may_follow are_good
whole_before stage (Write elem planes) t follows good =
    same_whole elem stage follows (and_parts (is_whole_type elem) (are_counts 4 planes) good).0
whole_before stage SwapBytes t follows good = wide_whole stage follows
whole_before stage (Unpack widths) t follows good = follows
whole_before stage (Pack widths) t follows good = follows
whole_before stage (LeftShift n) t follows good = follows
whole_before stage (RightShift n) t follows good = follows
whole_before stage (Read elem planes palette) t follows good = cc
whole_before stage (Clear values) t follows good = cc
whole_before stage (Swizzle from) t follows good = cc
whole_before stage (Convert to expand) t follows good = cc
whole_before stage (Dither k) t follows good = cc
whole_before stage (Linear rows) t follows good = cc
whole_before stage (Scale by) t follows good = cc
whole_before stage (Min limits) t follows good = cc
whole_before stage (Max limits) t follows good = cc

pub numbers_before : (frame : List ℕ) (position : PixelPosition) (stage : Stage) (op : Op) (values : Values)
    → MayApply frame position stage op values → takes_numbers op ≡ true → are_fractions values ≡ false
numbers_before frame position stage op values h t = h.kind ∙ whole_not_rational stage (whole_before stage op t h.follows h.good)

-- ---- the arguments
pub read_pixel : (frame : List ℕ) (position : PixelPosition) (stage : Stage) (elem : PixType) (planes : List ℕ) (palette : Bool)
    (values : Values)
    → MayApply frame position stage (Read elem planes palette) values → IsPixelOf elem planes palette frame position
unfolding may_follow are_good
read_pixel frame position stage elem planes palette values h =
    record { column = h.column; row = h.row; good = h.good; size = h.size h.follows }

counts_most : (stage : Stage) (ns : List ℕ) → are_counts (bits_at stage) ns ≡ true → sum ns ≤ 32
counts_most stage ns h =
    let most = leb-true (sum ns) (bits_at stage) (and_parts (are_in_front ns && nat_le 1 (sum ns)) (nat_le (sum ns) (bits_at stage)) h).1 in
    omega (arith, most, bits_most stage)

pub unpack_widths : (stage : Stage) (widths : List ℕ) → are_good stage (Unpack widths) ≡ true → sum widths ≤ 32
unfolding are_good
unpack_widths stage widths h = counts_most stage widths h

pub pack_widths : (stage : Stage) (widths : List ℕ) → are_good stage (Pack widths) ≡ true → sum widths ≤ 32
unfolding are_good
pack_widths stage widths h = counts_most stage widths h

pub left_shift : (stage : Stage) (n : ℕ) → are_good stage (LeftShift n) ≡ true → n < bits_at stage
unfolding are_good
left_shift stage n h = ltb-true n (bits_at stage) h

pub right_shift : (stage : Stage) (n : ℕ) → are_good stage (RightShift n) ≡ true → n < 32
unfolding are_good
right_shift stage n h = omega (arith, ltb-true n (bits_at stage) h, bits_most stage)

pub dither_levels : (stage : Stage) (k : ℕ) → are_good stage (Dither k) ≡ true → k ≤ 4
unfolding are_good
dither_levels stage k h = leb-true k 4 h

pub swizzle_lanes : (stage : Stage) (from : List ℕ) → are_good stage (Swizzle from) ≡ true → All (λ i. i < 4) from
unfolding are_good
swizzle_lanes stage from h = λ k d within. ltb-true (get_or from k d) 4 (AllPass-from_list_all (λ i. nat_lt i 4) from h k d within)

pub clear_entries : (frame : List ℕ) (position : PixelPosition) (stage : Stage) (entries : List (Option ℚ)) (values : Values)
    → MayApply frame position stage (Clear entries) values → are_fractions values ≡ false → all_fit (bits_at stage) entries ≡ true
unfolding are_good
clear_entries frame position stage entries values h numbers =
    entries_fit (is_rational stage) (sym h.kind ∙ numbers) (all_fit (bits_at stage) entries) h.good
  where
    entries_fit : (rational : Bool) → rational ≡ false → (fit : Bool) → (rational || fit) ≡ true → fit ≡ true
    entries_fit true e fit h = cc
    entries_fit false e fit h = h
