-- The ranges after an operation enclose the values after it.
use Rattle.std.proofs.Common.{◌≡◌, ℕ, zero, suc, ◌+◌, ◌*◌, ◌/◌, ◌%◌, ◌^◌, ◌<◌, ◌≤◌, Bool, true, false, not, ◌&&◌, ◌||◌, if◌then◌else◌}
use Rattle.std.proofs.Common.{List, [], ◌∷◌, All, sum, ℤ, pos, negsuc, nat_eq, nat_lt, eqb-true, lt-ltb, subst, refl, sym, ◌∙◌, arith}
use Rattle.std.specs.Prelude.{Option, Some, None, slice_index, unsigned_abs}
use Rattle.std.proofs.lemmas.Bool.{and_parts}
use Rattle.frac_math.specs.Fraction.{ℚ, nat, whole, floor, ◌+ℚ◌, ◌*ℚ◌, ◌≤ℚ◌}
use Rattle.std.specs.Str.{bytes_eq}
use Rattle.frac_math.specs.Dither.{dither_at}
use Rattle.frac_math.proofs.FractionOrder.{le_refl_ℚ}
use Rattle.frac_math.proofs.FractionRing.{same_fields}
use Rattle.op_list.specs.declared.types.PixType.{PixType}
use Rattle.op_list.specs.declared.types.PixType.TheVariants.{U8, U16, U32, Rat}
use Rattle.op_list.specs.declared.types.Stage.{Stage}
use Rattle.op_list.specs.declared.types.Stage.TheVariants.{Start, Typed, Ended}
use Rattle.op_list.specs.declared.position.PixelPosition.{PixelPosition}
use Rattle.op_list.specs.declared.op.Op.TheVariants.{Read, Write, SwapBytes, Unpack, Pack, Clear, LeftShift, RightShift, Swizzle}
use Rattle.op_list.specs.declared.op.Op.TheVariants.{Convert, Dither, Linear, Scale, Min, Max}
use Rattle.op_list.specs.declared.values.Values.{Values}
use Rattle.op_list.specs.declared.values.Values.TheVariants.{Numbers, Fractions}
use Rattle.op_list.specs.Types.{bits, bits_at, is_rational, is_whole_type, is_same, is_wide, has_type}
use Rattle.op_list.specs.Typing.{may_follow, are_good, are_counts, is_below, entry_fits, all_fit}
use Rattle.op_list.specs.Values.{four, number, fraction, fraction_in, entry, are_fractions}
use Rattle.op_list.specs.Whole.{reversed_bytes, field, modulo}
use Rattle.op_list.specs.Pixel.{element_of, element, element_in, pixel_count, pixel_number, read_values, palette_colours, colours}
use Rattle.op_list.specs.Apply.{apply, written, packed, cleared, cleared_number, cleared_fraction, swizzled, as_numbers, converted}
use Rattle.op_list.specs.Apply.{row_value, row_of, at_most, at_least}
use Rattle.op_list.proofs.Applied.{whole_not_rational, left_shift, swizzle_lanes}
use Rattle.op_list.proofs.GivenEntries.{fits_at}
use Rattle.op_list.proofs.Elements.{counts_few}
use Rattle.op_list.proofs.Stored.{byte_below, element_below}
use Rattle.op_range.specs.declared.range.ValueRange.{ValueRange}
use Rattle.op_range.specs.Ranges.{range, only_zero, full, range_in, cleared_range, converted_range, as_whole_range, swapped_range}
use Rattle.op_range.specs.Ranges.{left_range, right_range, ranges_after, scaled_range, row_range, dithered_range, range_at_most}
use Rattle.op_range.specs.Ranges.{range_at_least}
use Rattle.op_range.specs.Within.{value_of, IsWithin, AreWithin, FirstAreWithin}
use Rattle.op_range.specs.Laws.{RangesEnclose}
use Rattle.op_list.proofs.Four.{get_or-four}
use Rattle.op_range.proofs.UsedSteps.{index_below}
use Rattle.op_range.proofs.Within.{numbers_within, fractions_within, number_at, fraction_at, below_full, zero_only}
use Rattle.op_range.proofs.NumberRanges.{swapped_within, left_within, right_within, numbers_as_whole, fractions_as_whole, packed-below}
use Rattle.op_range.proofs.NumberRanges.{mod_below}
use Rattle.op_range.proofs.FractionRanges.{scaled_within, row_within, dithered_within, most_within, least_within}

-- ---- Read
element_within : (elem : PixType) (planes frame : List ℕ) (position : PixelPosition) (i : ℕ) → All (λ byte. byte < 256) frame
    → IsWithin (if nat_lt i (sum planes) then full (bits elem) else only_zero) (nat (element_of elem planes frame position i))
unfolding element_of
element_within elem planes frame position i bytes = by_place_in (nat_lt i (sum planes))
    (element elem frame (element_in (pixel_count position) (pixel_number position) 0 planes i)) (element_below elem frame _ bytes)
  where
    by_place_in : (t : Bool) (n : ℕ) → n < 2 ^ bits elem
        → IsWithin (if t then full (bits elem) else only_zero) (nat (if t then n else 0))
    by_place_in true n h = below_full (bits elem) n h
    by_place_in false n h = zero_only

colours_within : (frame : List ℕ) (position : PixelPosition) → All (λ byte. byte < 256) frame
    → AreWithin (four (λ i. full 8)) (Numbers (palette_colours frame position))
unfolding palette_colours
colours_within frame position bytes = record { each = at_value }
  where
    at_value : (i : ℕ) → i < 4
        → IsWithin (range_in (four (λ i. full 8)) i)
        (value_of (Numbers (colours frame (pixel_count position + 4 * slice_index frame (pixel_number position)))) i)
    at_value zero below = below_full 8 _ (byte_below frame _ bytes)
    at_value (suc zero) below = below_full 8 _ (byte_below frame _ bytes)
    at_value (suc (suc zero)) below = below_full 8 _ (byte_below frame _ bytes)
    at_value (suc (suc (suc zero))) below = below_full 8 _ (byte_below frame _ bytes)
    at_value (suc (suc (suc (suc i)))) below = absurd (omega arith)

pub same_type : (elem : PixType) → is_same elem U8 ≡ true → elem ≡ U8
same_type U8 h = refl
same_type U16 h = absurd (cc)
same_type U32 h = absurd (cc)
same_type Rat h = absurd (cc)

read_within : (elem : PixType) (planes frame : List ℕ) (palette : Bool) (position : PixelPosition) → All (λ byte. byte < 256) frame
    → (palette ≡ true → elem ≡ U8)
    → AreWithin (four (λ i. if palette || nat_lt i (sum planes) then full (bits elem) else only_zero))
    (Numbers (read_values elem planes palette frame position))
read_within elem planes frame true position bytes eight = subst
    (λ (t : PixType). AreWithin (four (λ i. full (bits t))) (Numbers (palette_colours frame position))) (sym (eight refl))
    (colours_within frame position bytes)
read_within elem planes frame false position bytes eight =
    numbers_within (λ i. if nat_lt i (sum planes) then full (bits elem) else only_zero) (λ i. element_of elem planes frame position i)
    (λ i below. element_within elem planes frame position i bytes)

pub palette_type : (elem : PixType) (planes : List ℕ) (palette : Bool) (stage : Stage) → are_good stage (Read elem planes palette)
    ≡ true → palette ≡ true → elem ≡ U8
unfolding are_good
palette_type elem planes palette stage good is = same_type elem
    (chosen palette (is_same elem U8) (bytes_eq planes (1 ∷ 0 ∷ 0 ∷ 0 ∷ [])) is
    (and_parts (is_whole_type elem && are_counts 4 planes) _ good).1)
  where
    chosen : (p a b : Bool) → p ≡ true → (not p || (a && b)) ≡ true → a ≡ true
    chosen true a b is h = (and_parts a b h).0
    chosen false a b is h = absurd (cc)

-- ---- Clear
cleared_value : (count : ℕ) (e : Option ℚ) (n : ℕ) (b : ValueRange) → entry_fits count e ≡ true → IsWithin b (nat n)
    → IsWithin (cleared_range e b) (nat (cleared_number e n))
cleared_value count None n b fits w = w
cleared_value count (Some x) n b fits w =
    let p = and_parts (nat_eq x.denominator 1) (is_below (2 ^ count) x.numerator) fits in
    let e : x ≡ nat (unsigned_abs x.numerator) = same_fields x (nat (unsigned_abs x.numerator)) (positive (2 ^ count) x.numerator p.1)
    (eqb-true x.denominator 1 p.0) in
    record {
      above = subst (λ (y : ℚ). x ≤ℚ y) e (le_refl_ℚ x);
      below = subst (λ (y : ℚ). y ≤ℚ x) e (le_refl_ℚ x);
      integral = λ h. refl;
    }
  where
    positive : (limit : ℕ) (z : ℤ) → is_below limit z ≡ true → z ≡ pos (unsigned_abs z)
    positive limit (pos m) h = refl
    positive limit (negsuc m) h = absurd (cc)

cleared_within : (stage : Stage) (entries : List (Option ℚ)) (ranges : List ValueRange) (v : Values)
    → (are_fractions v ≡ false → all_fit (bits_at stage) entries ≡ true) → AreWithin ranges v
    → AreWithin (four (λ i. cleared_range (entry entries i) (range_in ranges i))) (cleared entries v)
cleared_within stage entries ranges (Numbers v) fits w =
    numbers_within (λ i. cleared_range (entry entries i) (range_in ranges i)) (λ i. cleared_number (entry entries i) (slice_index v i))
    (λ i below. cleared_value (bits_at stage) (entry entries i) (slice_index v i) (range_in ranges i)
    (fits_at (bits_at stage) entries i (fits refl)) (w.each i below))
cleared_within stage entries ranges (Fractions v) fits w =
    fractions_within (λ i. cleared_range (entry entries i) (range_in ranges i))
    (λ i. cleared_fraction (entry entries i) (fraction_in v i))
    (λ i below. put (entry entries i) (fraction_in v i) (range_in ranges i) (w.each i below))
  where
    put : (e : Option ℚ) (x : ℚ) (b : ValueRange) → IsWithin b x → IsWithin (cleared_range e b) (cleared_fraction e x)
    put None x b h = h
    put (Some c) x b h = record { above = le_refl_ℚ c; below = le_refl_ℚ c; integral = λ t. t }

-- ---- Swizzle
swizzled_within : (from : List ℕ) (ranges : List ValueRange) (v : Values) → All (λ i. i < 4) from → AreWithin ranges v
    → AreWithin (four (λ i. range_in ranges (slice_index from i))) (swizzled from v)
swizzled_within from ranges (Numbers v) good w = numbers_within (λ i. range_in ranges (slice_index from i))
    (λ i. slice_index v (slice_index from i)) (λ i below. w.each (slice_index from i) (index_below from good i))
swizzled_within from ranges (Fractions v) good w = fractions_within (λ i. range_in ranges (slice_index from i))
    (λ i. fraction_in v (slice_index from i)) (λ i below. w.each (slice_index from i) (index_below from good i))

-- ---- Convert
numbers_converted : (count : ℕ) (expand : Bool) (ranges : List ValueRange) (v : List ℕ) → AreWithin ranges (Numbers v)
    → AreWithin (four (λ i. as_whole_range count expand false (range_in ranges i))) (as_numbers expand count (Numbers v))
numbers_converted count expand ranges v w =
    numbers_within (λ i. as_whole_range count expand false (range_in ranges i))
    (λ i. slice_index v i * (if expand then 257 else 1) % 2 ^ count)
    (λ i below. numbers_as_whole count expand (slice_index v i) (range_in ranges i) (w.each i below))

fractions_converted : (count : ℕ) (expand : Bool) (ranges : List ValueRange) (v : List ℚ) → AreWithin ranges (Fractions v)
    → AreWithin (four (λ i. as_whole_range count expand true (range_in ranges i))) (as_numbers expand count (Fractions v))
fractions_converted count expand ranges v w =
    numbers_within (λ i. as_whole_range count expand true (range_in ranges i)) (λ i. modulo (floor (fraction_in v i)) (2 ^ count))
    (λ i below. fractions_as_whole count expand (fraction_in v i) (range_in ranges i) (w.each i below))

whole_within : (count : ℕ) (expand rational : Bool) (ranges : List ValueRange) (v : Values) → are_fractions v ≡ rational
    → AreWithin ranges v
    → AreWithin (four (λ i. as_whole_range count expand rational (range_in ranges i))) (as_numbers expand count v)
whole_within count expand false ranges (Numbers v) kind w = numbers_converted count expand ranges v w
whole_within count expand true ranges (Fractions v) kind w = fractions_converted count expand ranges v w
whole_within count expand true ranges (Numbers v) kind w = absurd (cc)
whole_within count expand false ranges (Fractions v) kind w = absurd (cc)

number_kept : (n : ℕ) (r : ValueRange) → IsWithin r (nat n) → IsWithin (converted_range Rat false false r) (nat n)
number_kept n r w = record { above = w.above; below = w.below; integral = λ h. refl }

fraction_kept : (x : ℚ) (r : ValueRange) → IsWithin r x → IsWithin (converted_range Rat false true r) x
fraction_kept x r w = record { above = w.above; below = w.below; integral = λ h. w.integral (or_false r.whole h) }
  where
    or_false : (b : Bool) → (b || false) ≡ true → b ≡ true
    or_false true h = refl
    or_false false h = h

rat_within : (ranges : List ValueRange) (v : Values) (expand rational : Bool) → are_fractions v ≡ rational → AreWithin ranges v
    → AreWithin (four (λ i. converted_range Rat expand rational (range_in ranges i))) (converted Rat expand v)
rat_within ranges (Numbers v) expand false kind w =
    fractions_within (λ i. converted_range Rat expand false (range_in ranges i)) (λ i. nat (slice_index v i))
    (λ i below. number_kept (slice_index v i) (range_in ranges i) (w.each i below))
rat_within ranges (Fractions v) expand true kind w = record {
  each = λ i below.
      subst (λ (r : ValueRange). IsWithin r (fraction_in v i))
      (sym (get_or-four (λ j. converted_range Rat expand true (range_in ranges j)) i only_zero below))
      (fraction_kept (fraction_in v i) (range_in ranges i) (w.each i below));
}
rat_within ranges (Numbers v) expand true kind w = absurd (cc)
rat_within ranges (Fractions v) expand false kind w = absurd (cc)

converted_within : (to : PixType) (expand rational : Bool) (ranges : List ValueRange) (v : Values) → are_fractions v ≡ rational
    → AreWithin ranges v
    → AreWithin (four (λ i. converted_range to expand rational (range_in ranges i))) (converted to expand v)
converted_within Rat expand rational ranges v kind w = rat_within ranges v expand rational kind w
converted_within U8 expand rational ranges v kind w = whole_within 8 expand rational ranges v kind w
converted_within U16 expand rational ranges v kind w = whole_within 16 expand rational ranges v kind w
converted_within U32 expand rational ranges v kind w = whole_within 32 expand rational ranges v kind w

-- ---- Pack
packing_within : (widths : List ℕ) (v : Values) → AreWithin (full (sum widths) ∷ only_zero ∷ only_zero ∷ only_zero ∷ [])
    (Numbers (packed widths v ∷ 0 ∷ 0 ∷ 0 ∷ []))
packing_within widths v = record { each = at_value }
  where
    at_value : (i : ℕ) → i < 4 → IsWithin (range_in (full (sum widths) ∷ only_zero ∷ only_zero ∷ only_zero ∷ []) i)
        (value_of (Numbers (packed widths v ∷ 0 ∷ 0 ∷ 0 ∷ [])) i)
    at_value zero below = below_full (sum widths) (packed widths v) (packed-below widths v)
    at_value (suc zero) below = zero_only
    at_value (suc (suc zero)) below = zero_only
    at_value (suc (suc (suc zero))) below = zero_only
    at_value (suc (suc (suc (suc i)))) below = absurd (omega arith)

-- ---- SwapBytes
swap_typed : (elem : PixType) (ranges : List ValueRange) (v : Values) → are_fractions v ≡ false → AreWithin ranges v
    → AreWithin (four (λ i. swapped_range (bits elem) (range_in ranges i)))
    (Numbers (four (λ i. reversed_bytes (bits elem / 8) (number v i))))
swap_typed elem ranges v kind w =
    numbers_within (λ i. swapped_range (bits elem) (range_in ranges i)) (λ i. reversed_bytes (bits elem / 8) (number v i))
    (λ i below. swapped_within elem (number v i) (range_in ranges i) (number_at ranges v i kind below w))

swap_within : (stage : Stage) (ranges : List ValueRange) (v : Values) → is_wide stage ≡ true → are_fractions v ≡ is_rational stage
    → AreWithin ranges v
    → AreWithin (four (λ i. swapped_range (bits_at stage) (range_in ranges i)))
    (Numbers (four (λ i. reversed_bytes (bits_at stage / 8) (number v i))))
swap_within (Typed U8) ranges v wide kind w = absurd (cc)
swap_within (Typed U16) ranges v wide kind w = swap_typed U16 ranges v kind w
swap_within (Typed U32) ranges v wide kind w = swap_typed U32 ranges v kind w
swap_within (Typed Rat) ranges v wide kind w = absurd (cc)
swap_within Start ranges v wide kind w = absurd (cc)
swap_within Ended ranges v wide kind w = absurd (cc)

-- ---- an operation
pub entries_fit : (stage : Stage) (entries : List (Option ℚ)) (v : Values) → are_fractions v ≡ is_rational stage
    → are_good stage (Clear entries) ≡ true → are_fractions v ≡ false → all_fit (bits_at stage) entries ≡ true
unfolding are_good
entries_fit stage entries v kind good whole = chosen (is_rational stage) (all_fit (bits_at stage) entries) (sym kind ∙ whole) good
  where
    chosen : (a b : Bool) → a ≡ false → (a || b) ≡ true → b ≡ true
    chosen true b e h = absurd (cc)
    chosen false b e h = h

-- ---- Write
pub write_count : (stage : Stage) (elem : PixType) (planes : List ℕ) → are_good stage (Write elem planes) ≡ true → sum planes ≤ 4
unfolding are_good
write_count stage elem planes good = (counts_few 4 planes (and_parts (is_whole_type elem) (are_counts 4 planes) good).1).0

whole_at_write : (stage : Stage) (elem : PixType) (planes : List ℕ) → may_follow stage (Write elem planes) ≡ true
    → are_good stage (Write elem planes) ≡ true → is_rational stage ≡ false
unfolding may_follow are_good
whole_at_write stage elem planes follows good = at_type stage elem follows (and_parts (is_whole_type elem) (are_counts 4 planes) good).0
  where
    at_type : (stage : Stage) (elem : PixType) → has_type elem stage ≡ true → is_whole_type elem ≡ true → is_rational stage ≡ false
    at_type Start elem h k = refl
    at_type Ended elem h k = refl
    at_type (Typed U8) elem h k = refl
    at_type (Typed U16) elem h k = refl
    at_type (Typed U32) elem h k = refl
    at_type (Typed Rat) U8 h k = absurd (cc)
    at_type (Typed Rat) U16 h k = absurd (cc)
    at_type (Typed Rat) U32 h k = absurd (cc)
    at_type (Typed Rat) Rat h k = absurd (cc)

written_is : (planes : List ℕ) (v : Values) (i : ℕ) → i < sum planes → written planes v i ≡ number v i
written_is planes v i below = chosen (nat_lt i (sum planes)) (lt-ltb i (sum planes) below)
  where
    chosen : (t : Bool) → t ≡ true → (if t then number v i else 0) ≡ number v i
    chosen true h = refl
    chosen false h = absurd (cc)

write_within : (planes : List ℕ) (ranges : List ValueRange) (v : Values) → are_fractions v ≡ false → sum planes ≤ 4 → AreWithin ranges v
    → FirstAreWithin (sum planes) (four (λ i. range (range_in ranges i).least (range_in ranges i).greatest true))
    (Numbers (four (λ i. written planes v i)))
write_within planes ranges v kind few w = record { each = at_value }
  where
    kept : (r : ValueRange) (n : ℕ) → IsWithin r (nat n) → IsWithin (range r.least r.greatest true) (nat n)
    kept r n w = record { above = w.above; below = w.below; integral = λ h. refl }

    at_value : (i : ℕ) → i < sum planes
        → IsWithin (range_in (four (λ j. range (range_in ranges j).least (range_in ranges j).greatest true)) i)
        (value_of (Numbers (four (λ j. written planes v j))) i)
    at_value i below =
        let four_values : i < 4 = omega arith in
        subst (λ (r : ValueRange). IsWithin r (value_of (Numbers (four (λ j. written planes v j))) i))
        (sym (get_or-four (λ j. range (range_in ranges j).least (range_in ranges j).greatest true) i only_zero four_values))
        (subst (λ (n : ℕ). IsWithin (range (range_in ranges i).least (range_in ranges i).greatest true) (nat n))
        (sym (get_or-four (λ j. written planes v j) i 0 four_values ∙ written_is planes v i below))
        (kept (range_in ranges i) (number v i) (number_at ranges v i kind four_values w)))

pub ranges_enclose : RangesEnclose
unfolding ranges_after apply may_follow
ranges_enclose frame position stage (Read elem planes palette) ranges v h w = read_within elem planes frame palette position h.bytes
    (palette_type elem planes palette stage h.good)
ranges_enclose frame position stage (Write elem planes) ranges v h w =
    write_within planes ranges v (h.kind ∙ whole_at_write stage elem planes h.follows h.good) (write_count stage elem planes h.good) w
ranges_enclose frame position stage SwapBytes ranges v h w = swap_within stage ranges v h.follows h.kind w
ranges_enclose frame position stage (Unpack widths) ranges v h w =
    numbers_within (λ i. full (slice_index widths i)) (λ i. field widths (number v 0) i)
    (λ i below. below_full (slice_index widths i) _ (mod_below _ (slice_index widths i)))
ranges_enclose frame position stage (Pack widths) ranges v h w = packing_within widths v
ranges_enclose frame position stage (Clear entries) ranges v h w = cleared_within stage entries ranges v
    (entries_fit stage entries v h.kind h.good) w
ranges_enclose frame position stage (LeftShift n) ranges v h w =
    numbers_within (λ i. left_range (bits_at stage) n (range_in ranges i)) (λ i. number v i * 2 ^ n % 2 ^ bits_at stage)
    (λ i below. left_within (bits_at stage) n (number v i) (range_in ranges i) (left_shift stage n h.good)
    (number_at ranges v i (h.kind ∙ whole_not_rational stage h.follows) below w))
ranges_enclose frame position stage (RightShift n) ranges v h w =
    numbers_within (λ i. right_range n (range_in ranges i)) (λ i. number v i / 2 ^ n)
    (λ i below. right_within n (number v i) (range_in ranges i)
    (number_at ranges v i (h.kind ∙ whole_not_rational stage h.follows) below w))
ranges_enclose frame position stage (Swizzle from) ranges v h w = swizzled_within from ranges v (swizzle_lanes stage from h.good) w
ranges_enclose frame position stage (Convert to expand) ranges v h w = converted_within to expand (is_rational stage) ranges v h.kind w
ranges_enclose frame position stage (Dither k) ranges v h w =
    fractions_within (λ i. dithered_range k (range_in ranges i)) (λ i. fraction v i +ℚ dither_at k position.x position.y)
    (λ i below. dithered_within k position.x position.y (fraction v i) (range_in ranges i)
    (fraction_at ranges v i (h.kind ∙ h.follows) below w))
ranges_enclose frame position stage (Linear rows) ranges v h w =
    fractions_within (λ i. row_range (row_of rows i) ranges) (λ i. row_value (row_of rows i) v)
    (λ i below. row_within (row_of rows i) v ranges (λ j less. fraction_at ranges v j (h.kind ∙ h.follows) less w))
ranges_enclose frame position stage (Scale by) ranges v h w =
    fractions_within (λ i. scaled_range by (range_in ranges i)) (λ i. fraction v i *ℚ by)
    (λ i below. scaled_within by (fraction v i) (range_in ranges i) (fraction_at ranges v i (h.kind ∙ h.follows) below w))
ranges_enclose frame position stage (Min limits) ranges v h w =
    fractions_within (λ i. range_at_most (entry limits i) (range_in ranges i)) (λ i. at_most (entry limits i) (fraction v i))
    (λ i below. most_within (entry limits i) (fraction v i) (range_in ranges i) (fraction_at ranges v i (h.kind ∙ h.follows) below w))
ranges_enclose frame position stage (Max limits) ranges v h w =
    fractions_within (λ i. range_at_least (entry limits i) (range_in ranges i)) (λ i. at_least (entry limits i) (fraction v i))
    (λ i below. least_within (entry limits i) (fraction v i) (range_in ranges i) (fraction_at ranges v i (h.kind ∙ h.follows) below w))
