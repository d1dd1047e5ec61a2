-- Each operation leaves numbers that have the bits of their type.
use Rattle.std.proofs.Common.{◌≡◌, ℕ, zero, suc, ◌+◌, ◌*◌, ◌/◌, ◌%◌, ◌^◌, ◌<◌, ◌≤◌, Bool, true, false, if◌then◌else◌, List, [], ◌∷◌}
use Rattle.std.proofs.Common.{All, sum, ℤ, pos, negsuc, nat_eq, nat_lt, ltb-true, subst, refl, sym, arith}
use Rattle.std.specs.Prelude.{Option, Some, None, slice_index, unsigned_abs}
use Rattle.std.proofs.lemmas.Bool.{and_parts}
use Rattle.std.proofs.lemmas.Nat.{pow_pos}
use Rattle.std.proofs.Math.Nat.{pow-le-pow_right, div-le_self}
use Rattle.frac_math.specs.Fraction.{ℚ, floor}
use Rattle.op_list.specs.declared.types.PixType.{PixType}
use Rattle.op_list.specs.declared.types.PixType.TheVariants.{U8, U16, U32, Rat}
use Rattle.op_list.specs.declared.types.Stage.{Stage}
use Rattle.op_list.specs.declared.types.Stage.TheVariants.{Start, Typed, Ended}
use Rattle.op_list.specs.declared.position.PixelPosition.{PixelPosition}
use Rattle.op_list.specs.declared.op.Op.TheVariants.{Read, Write, SwapBytes, Unpack, Pack, Clear, LeftShift, RightShift, Swizzle}
use Rattle.op_list.specs.declared.op.Op.TheVariants.{Convert, Dither, Linear, Scale, Min, Max}
use Rattle.op_list.specs.declared.values.Values.{Values}
use Rattle.op_list.specs.declared.values.Values.TheVariants.{Numbers, Fractions}
use Rattle.op_list.specs.Types.{bits, bits_at, is_wide}
use Rattle.op_list.specs.Typing.{may_follow, are_good, stage_after, are_counts, is_below, entry_fits, all_fit}
use Rattle.op_list.specs.Values.{four, number, fraction_in, entry, are_fractions}
use Rattle.op_list.specs.Whole.{reversed_bytes, field, modulo}
use Rattle.op_list.specs.Pixel.{element_of, pixel_count, pixel_number, read_values, palette_colours, colours}
use Rattle.op_list.specs.Apply.{apply, packed, cleared, cleared_number, swizzled, as_numbers, converted}
use Rattle.op_list.proofs.Applied.{swizzle_lanes}
use Rattle.op_list.proofs.GivenEntries.{fits_at}
use Rattle.op_list.proofs.Stored.{byte_below, element_below}
use Rattle.op_list.proofs.Elements.{sum-cons, counts_few}
use Rattle.op_range.specs.Within.{AreSmall}
use Rattle.op_range.specs.Laws.{NumbersStaySmall}
use Rattle.op_list.proofs.Four.{get_or-four}
use Rattle.op_range.proofs.UsedSteps.{index_below}
use Rattle.op_range.proofs.NumberRanges.{mod_below, modulo_below, reversed_full, packed-below}
use Rattle.op_range.proofs.RangeSteps.{palette_type, entries_fit}

-- ---- four numbers, and fractions
small_numbers : (stage : Stage) (g : ℕ → ℕ) → ((i : ℕ) → i < 4 → g i < 2 ^ bits_at stage) → AreSmall stage (Numbers (four g))
small_numbers stage g each = record
    { each = λ i below. subst (λ (n : ℕ). n < 2 ^ bits_at stage) (sym (get_or-four g i 0 below)) (each i below) }

small_fractions : (stage : Stage) (xs : List ℚ) → AreSmall stage (Fractions xs)
small_fractions stage xs = record { each = λ i below. pow_pos (bits_at stage) }

-- ---- Read
small_element : (elem : PixType) (planes frame : List ℕ) (position : PixelPosition) (i : ℕ) → All (λ byte. byte < 256) frame
    → element_of elem planes frame position i < 2 ^ bits elem
unfolding element_of
small_element elem planes frame position i bytes = either (nat_lt i (sum planes)) _ (element_below elem frame _ bytes)
  where
    either : (t : Bool) (n : ℕ) → n < 2 ^ bits elem → (if t then n else 0) < 2 ^ bits elem
    either true n h = h
    either false n h = pow_pos (bits elem)

small_colours : (frame : List ℕ) (position : PixelPosition) → All (λ byte. byte < 256) frame
    → AreSmall (Typed U8) (Numbers (palette_colours frame position))
unfolding palette_colours
small_colours frame position bytes = record { each = at_value }
  where
    at_value : (i : ℕ) → i < 4 → number (Numbers (colours frame (pixel_count position + 4 * slice_index frame (pixel_number position))))
        i < 256
    at_value zero below = byte_below frame _ bytes
    at_value (suc zero) below = byte_below frame _ bytes
    at_value (suc (suc zero)) below = byte_below frame _ bytes
    at_value (suc (suc (suc zero))) below = byte_below frame _ bytes
    at_value (suc (suc (suc (suc i)))) below = absurd (omega arith)

small_read : (elem : PixType) (planes frame : List ℕ) (palette : Bool) (position : PixelPosition) → All (λ byte. byte < 256) frame
    → (palette ≡ true → elem ≡ U8)
    → AreSmall (Typed elem) (Numbers (read_values elem planes palette frame position))
small_read elem planes frame true position bytes eight = subst
    (λ (t : PixType). AreSmall (Typed t) (Numbers (palette_colours frame position))) (sym (eight refl))
    (small_colours frame position bytes)
small_read elem planes frame false position bytes eight = small_numbers (Typed elem) (λ i. element_of elem planes frame position i)
    (λ i below. small_element elem planes frame position i bytes)

-- ---- SwapBytes
small_swap : (stage : Stage) (v : Values) → is_wide stage ≡ true
    → AreSmall stage (Numbers (four (λ i. reversed_bytes (bits_at stage / 8) (number v i))))
small_swap (Typed elem) v wide = small_numbers (Typed elem) (λ i. reversed_bytes (bits elem / 8) (number v i))
    (λ i below. reversed_full elem (number v i))
small_swap Start v wide = absurd (cc)
small_swap Ended v wide = absurd (cc)

-- ---- Unpack and Pack
one_of_sum : (ws : List ℕ) (i : ℕ) → slice_index ws i ≤ sum ws
one_of_sum [] i = omega arith
one_of_sum (w ∷ ws) zero = omega (arith, sum-cons w ws)
one_of_sum (w ∷ ws) (suc i) = omega (arith, sum-cons w ws, one_of_sum ws i)

raised : (n j k : ℕ) → n < 2 ^ j → j ≤ k → n < 2 ^ k
raised n j k h less = let p : 2 ^ j ≤ 2 ^ k = pow-le-pow_right (omega arith) less in omega arith

small_pack : (stage : Stage) (widths : List ℕ) (v : Values) → are_counts (bits_at stage) widths ≡ true
    → AreSmall stage (Numbers (packed widths v ∷ 0 ∷ 0 ∷ 0 ∷ []))
small_pack stage widths v h = record { each = at_value }
  where
    at_value : (i : ℕ) → i < 4 → slice_index (packed widths v ∷ 0 ∷ 0 ∷ 0 ∷ []) i < 2 ^ bits_at stage
    at_value zero below = raised (packed widths v) (sum widths) (bits_at stage) (packed-below widths v)
        ((counts_few (bits_at stage) widths h).0)
    at_value (suc zero) below = pow_pos (bits_at stage)
    at_value (suc (suc zero)) below = pow_pos (bits_at stage)
    at_value (suc (suc (suc zero))) below = pow_pos (bits_at stage)
    at_value (suc (suc (suc (suc i)))) below = absurd (omega arith)

-- ---- Clear
small_entry : (count : ℕ) (e : Option ℚ) (n : ℕ) → entry_fits count e ≡ true → n < 2 ^ count → cleared_number e n < 2 ^ count
small_entry count None n fits h = h
small_entry count (Some x) n fits h = size (2 ^ count) x.numerator
    (and_parts (nat_eq x.denominator 1) (is_below (2 ^ count) x.numerator) fits).1
  where
    size : (limit : ℕ) (z : ℤ) → is_below limit z ≡ true → unsigned_abs z < limit
    size limit (pos m) h = ltb-true m limit h
    size limit (negsuc m) h = absurd (cc)

small_clear : (stage : Stage) (entries : List (Option ℚ)) (v : Values)
    → (are_fractions v ≡ false → all_fit (bits_at stage) entries ≡ true) → AreSmall stage v → AreSmall stage (cleared entries v)
small_clear stage entries (Fractions v) fits h = small_fractions stage _
small_clear stage entries (Numbers v) fits h =
    small_numbers stage (λ i. cleared_number (entry entries i) (slice_index v i))
    (λ i below. small_entry (bits_at stage) (entry entries i) (slice_index v i) (fits_at (bits_at stage) entries i (fits refl))
    (h.each i below))

-- ---- Swizzle and Convert
small_swizzle : (stage : Stage) (from : List ℕ) (v : Values) → All (λ i. i < 4) from → AreSmall stage v
    → AreSmall stage (swizzled from v)
small_swizzle stage from (Fractions v) good h = small_fractions stage _
small_swizzle stage from (Numbers v) good h = small_numbers stage (λ i. slice_index v (slice_index from i))
    (λ i below. h.each (slice_index from i) (index_below from good i))

small_whole : (elem : PixType) (expand : Bool) (v : Values) → AreSmall (Typed elem) (as_numbers expand (bits elem) v)
small_whole elem expand (Numbers v) = small_numbers (Typed elem) (λ i. slice_index v i * (if expand then 257 else 1) % 2 ^ bits elem)
    (λ i below. mod_below _ (bits elem))
small_whole elem expand (Fractions v) = small_numbers (Typed elem) (λ i. modulo (floor (fraction_in v i)) (2 ^ bits elem))
    (λ i below. modulo_below _ (bits elem))

small_convert : (to : PixType) (expand : Bool) (v : Values) → AreSmall (Typed to) (converted to expand v)
small_convert Rat expand (Numbers v) = small_fractions (Typed Rat) _
small_convert Rat expand (Fractions v) = small_fractions (Typed Rat) _
small_convert U8 expand v = small_whole U8 expand v
small_convert U16 expand v = small_whole U16 expand v
small_convert U32 expand v = small_whole U32 expand v

-- ---- an operation
pub numbers_stay_small : NumbersStaySmall
unfolding apply may_follow are_good stage_after
numbers_stay_small frame position stage (Read elem planes palette) v m other h = small_read elem planes frame palette position m.bytes
    (palette_type elem planes palette stage m.good)
numbers_stay_small frame position stage (Write elem planes) v m other h = absurd (cc)
numbers_stay_small frame position stage SwapBytes v m other h = small_swap stage v m.follows
numbers_stay_small frame position stage (Unpack widths) v m other h =
    small_numbers stage (λ i. field widths (number v 0) i)
    (λ i below. raised _ (slice_index widths i) (bits_at stage) (mod_below _ (slice_index widths i))
    (omega (arith, one_of_sum widths i, (counts_few (bits_at stage) widths m.good).0)))
numbers_stay_small frame position stage (Pack widths) v m other h = small_pack stage widths v m.good
numbers_stay_small frame position stage (Clear entries) v m other h = small_clear stage entries v
    (entries_fit stage entries v m.kind m.good) h
numbers_stay_small frame position stage (LeftShift n) v m other h = small_numbers stage (λ i. number v i * 2 ^ n % 2 ^ bits_at stage)
    (λ i below. mod_below _ (bits_at stage))
numbers_stay_small frame position stage (RightShift n) v m other h =
    small_numbers stage (λ i. number v i / 2 ^ n)
    (λ i below. (let less = div-le_self (number v i) (2 ^ n) in let small = h.each i below in omega arith))
numbers_stay_small frame position stage (Swizzle from) v m other h = small_swizzle stage from v (swizzle_lanes stage from m.good) h
numbers_stay_small frame position stage (Convert to expand) v m other h = small_convert to expand v
numbers_stay_small frame position stage (Dither k) v m other h = small_fractions stage _
numbers_stay_small frame position stage (Linear rows) v m other h = small_fractions stage _
numbers_stay_small frame position stage (Scale by) v m other h = small_fractions stage _
numbers_stay_small frame position stage (Min limits) v m other h = small_fractions stage _
numbers_stay_small frame position stage (Max limits) v m other h = small_fractions stage _
