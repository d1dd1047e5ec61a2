-- An operation given values that agree in those used before it leaves values that agree in those used after it; so what is written is
-- the same.
use Rattle.std.proofs.Common.{◌≡◌, ℕ, ◌*◌, ◌/◌, ◌%◌, ◌^◌, ◌<◌, Bool, true, false, not, ◌&&◌, if◌then◌else◌, List, [], ◌∷◌, sum, nat_eq}
use Rattle.std.proofs.Common.{nat_lt, zero, suc, All, eq-eqb, lt-ltb, subst, refl, sym, ◌∙◌, ap, arith}
use Rattle.std.specs.Prelude.{Option, Some, None, slice_index}
use Rattle.std.proofs.lemmas.Bool.{and_from}
use Rattle.frac_math.specs.Fraction.{ℚ, nat, floor, equal_ℚ, ◌+ℚ◌, ◌*ℚ◌}
use Rattle.frac_math.proofs.FractionRing.{equal_is, mul-zero, mul_comm}
use Rattle.op_list.proofs.Applied.{swizzle_lanes}
use Rattle.op_list.proofs.Typed.{typed_parts}
use Rattle.op_list.specs.declared.types.PixType.{PixType}
use Rattle.op_list.specs.declared.types.PixType.TheVariants.{U8, U16, U32, Rat}
use Rattle.op_list.specs.declared.types.Stage.{Stage}
use Rattle.op_list.specs.declared.position.PixelPosition.{PixelPosition}
use Rattle.op_list.specs.declared.op.Op.{Op}
use Rattle.op_list.specs.declared.op.Op.TheVariants.{Read, Write, SwapBytes, Unpack, Pack, Clear, LeftShift, RightShift, Swizzle}
use Rattle.op_list.specs.declared.op.Op.TheVariants.{Convert, Dither, Linear, Scale, Min, Max}
use Rattle.op_list.specs.declared.values.Values.{Values}
use Rattle.op_list.specs.declared.values.Values.TheVariants.{Numbers, Fractions}
use Rattle.op_list.specs.Types.{bits_at}
use Rattle.op_list.specs.Typing.{are_good, are_typed, stage_after, ends_with_write, is_write}
use Rattle.op_list.specs.Values.{four, number, fraction, fraction_in, entry}
use Rattle.op_list.specs.Whole.{reversed_bytes, bits_below, field, placed, modulo}
use Rattle.op_list.specs.Apply.{apply, written, packed, cleared, cleared_number, cleared_fraction, swizzled, as_numbers, converted}
use Rattle.op_list.specs.Apply.{product, row_value, row_of, at_most, at_least}
use Rattle.op_list.specs.Run.{run_from}
use Rattle.frac_math.specs.Dither.{dither_at}
use Rattle.op_range.specs.Used.{is_used, any_of_four, is_missing, takes, used_before, used_from, none_used, Agree}
use Rattle.op_list.proofs.Four.{get_or-four, same_four}
use Rattle.op_range.proofs.AnyOfFour.{any_from}
use Rattle.op_range.proofs.Agreeing.{agree_self, agree_numbers, agree_fractions, map_numbers, map_floors, map_fractions}

zero_product : (a : ℚ) → nat 0 *ℚ a ≡ nat 0
zero_product a = mul_comm (nat 0) a ∙ mul-zero a

pub index_below : (from : List ℕ) → All (λ i. i < 4) from → (i : ℕ) → slice_index from i < 4
index_below [] good i = omega arith
index_below (n ∷ from) good zero = good 0 0 (omega arith)
index_below (n ∷ from) good (suc i) = index_below from (λ k d within. good (suc k) d (omega arith)) i

-- ---- Write
written_same : (planes : List ℕ) (v w : Values) (i : ℕ) (b : Bool) → (b ≡ true → number v i ≡ number w i)
    → (if b then number v i else 0) ≡ (if b then number w i else 0)
written_same planes v w i true h = h refl
written_same planes v w i false h = refl

pub write_same : (planes : List ℕ) (v w : Values) → Agree (four (λ i. nat_lt i (sum planes))) v w
    → Numbers (four (λ i. written planes v i)) ≡ Numbers (four (λ i. written planes w i))
write_same planes v w h =
    ap Numbers (same_four (λ i. written planes v i) (λ i. written planes w i) (λ i below.
    written_same planes v w i (nat_lt i (sum planes))
    (λ t. h.numbers i below (get_or-four (λ j. nat_lt j (sum planes)) i false below ∙ t))))

-- ---- Unpack and Pack
mod_none : (m n : ℕ) → m % 2 ^ 0 ≡ n % 2 ^ 0
mod_none m n = omega arith

wide : (k : ℕ) → 0 < k → nat_lt 0 k ≡ true
wide k h = lt-ltb 0 k h

low_same : (m n k : ℕ) → (nat_lt 0 k ≡ true → m ≡ n) → m % 2 ^ k ≡ n % 2 ^ k
low_same m n zero h = mod_none m n
low_same m n (suc k) h = ap (λ x. x % 2 ^ suc k) (h (wide (suc k) (omega arith)))

field_same : (widths : List ℕ) (m n i : ℕ) → (nat_lt 0 (slice_index widths i) ≡ true → m ≡ n) → field widths m i ≡ field widths n i
field_same widths m n i h = low_same (m / 2 ^ bits_below widths i) (n / 2 ^ bits_below widths i) (slice_index widths i)
    (λ t. ap (λ x. x / 2 ^ bits_below widths i) (h t))

placed_same : (widths : List ℕ) (m n i : ℕ) → (nat_lt 0 (slice_index widths i) ≡ true → m ≡ n) → placed widths m i ≡ placed widths n i
placed_same widths m n i h = ap (λ x. x * 2 ^ bits_below widths i) (low_same m n (slice_index widths i) h)

packed_same : (widths : List ℕ) (v w : Values) → ((i : ℕ) → i < 4 → nat_lt 0 (slice_index widths i) ≡ true → number v i ≡ number w i)
    → packed widths v ≡ packed widths w
packed_same widths v w h =
    let first = placed_same widths (number v 0) (number w 0) 0 (h 0 (omega arith)) in let second = placed_same widths (number v 1)
    (number w 1) 1 (h 1 (omega arith)) in
    let third = placed_same widths (number v 2) (number w 2) 2 (h 2 (omega arith)) in let fourth = placed_same widths (number v 3)
    (number w 3) 3 (h 3 (omega arith)) in cc

only_first : (used : List Bool) (m n : ℕ) → (is_used used 0 ≡ true → m ≡ n)
    → Agree used (Numbers (m ∷ 0 ∷ 0 ∷ 0 ∷ [])) (Numbers (n ∷ 0 ∷ 0 ∷ 0 ∷ []))
only_first used m n h = record { kind = refl; numbers = each; fractions = λ i below u. refl }
  where
    each : (i : ℕ) → i < 4 → is_used used i ≡ true → slice_index (m ∷ 0 ∷ 0 ∷ 0 ∷ []) i ≡ slice_index (n ∷ 0 ∷ 0 ∷ 0 ∷ []) i
    each zero below u = h u
    each (suc i) below u = refl

pub unpacked_same : (widths : List ℕ) (used : List Bool) (v w : Values)
    → Agree (four (λ i. nat_eq i 0 && any_of_four (λ j. is_used used j && nat_lt 0 (slice_index widths j)))) v w
    → Agree used (Numbers (four (λ i. field widths (number v 0) i))) (Numbers (four (λ i. field widths (number w 0) i)))
unpacked_same widths used v w h =
    let test = λ (j : ℕ). is_used used j && nat_lt 0 (slice_index widths j) in
    agree_numbers used (λ i. field widths (number v 0) i) (λ i. field widths (number w 0) i)
    (λ i below u. field_same widths (number v 0) (number w 0) i
    (λ t. h.numbers 0 (omega arith) (any_from test i below (and_from (is_used used i) (nat_lt 0 (slice_index widths i)) u t))))

pub packing_same : (widths : List ℕ) (used : List Bool) (v w : Values)
    → Agree (four (λ i. is_used used 0 && nat_lt 0 (slice_index widths i))) v w
    → Agree used (Numbers (packed widths v ∷ 0 ∷ 0 ∷ 0 ∷ [])) (Numbers (packed widths w ∷ 0 ∷ 0 ∷ 0 ∷ []))
packing_same widths used v w h =
    let flag = λ (i : ℕ). is_used used 0 && nat_lt 0 (slice_index widths i) in
    only_first used (packed widths v) (packed widths w)
    (λ u. packed_same widths v w
    (λ i below t. h.numbers i below (get_or-four flag i false below ∙ and_from (is_used used 0) (nat_lt 0 (slice_index widths i)) u t)))

-- ---- Linear
product_same : (x a b : ℚ) (t : Bool) → equal_ℚ x (nat 0) ≡ t → (not t ≡ true → a ≡ b) → x *ℚ a ≡ x *ℚ b
product_same x a b true is h = ap (λ z. z *ℚ a) (equal_is x (nat 0) is) ∙ zero_product a ∙ sym (zero_product b)
    ∙ sym (ap (λ z. z *ℚ b) (equal_is x (nat 0) is))
product_same x a b false is h = ap (λ z. x *ℚ z) (h refl)

term_same : (row : List ℚ) (v w : Values) (i : ℕ) → (takes row i ≡ true → fraction v i ≡ fraction w i)
    → product row v i ≡ product row w i
term_same row v w i h = product_same (fraction_in row i) (fraction v i) (fraction w i) (equal_ℚ (fraction_in row i) (nat 0)) refl h

pub row_same : (row : List ℚ) (v w : Values) → ((i : ℕ) → i < 4 → takes row i ≡ true → fraction v i ≡ fraction w i)
    → row_value row v ≡ row_value row w
row_same row v w h =
    let first = term_same row v w 0 (h 0 (omega arith)) in let second = term_same row v w 1 (h 1 (omega arith)) in
    let third = term_same row v w 2 (h 2 (omega arith)) in let fourth = term_same row v w 3 (h 3 (omega arith)) in cc

mapped_same : (rows : List (List ℚ)) (used : List Bool) (v w : Values)
    → Agree (four (λ i. any_of_four (λ j. is_used used j && takes (row_of rows j) i))) v w
    → Agree used (Fractions (four (λ i. row_value (row_of rows i) v))) (Fractions (four (λ i. row_value (row_of rows i) w)))
mapped_same rows used v w h =
    let test = λ (i j : ℕ). is_used used j && takes (row_of rows j) i in
    agree_fractions used (λ i. row_value (row_of rows i) v) (λ i. row_value (row_of rows i) w)
    (λ i below u. row_same (row_of rows i) v w
    (λ j less t. h.fractions j less
    (get_or-four (λ k. any_of_four (test k)) j false less
    ∙ any_from (test j) i below (and_from (is_used used i) (takes (row_of rows i) j) u t))))

-- ---- Clear
number_cleared : (e : Option ℚ) (m n : ℕ) → (is_missing e ≡ true → m ≡ n) → cleared_number e m ≡ cleared_number e n
number_cleared None m n h = h refl
number_cleared (Some x) m n h = refl

fraction_cleared : (e : Option ℚ) (a b : ℚ) → (is_missing e ≡ true → a ≡ b) → cleared_fraction e a ≡ cleared_fraction e b
fraction_cleared None a b h = h refl
fraction_cleared (Some x) a b h = refl

cleared_same : (entries : List (Option ℚ)) (used : List Bool) (v w : Values)
    → Agree (four (λ i. is_used used i && is_missing (entry entries i))) v w → Agree used (cleared entries v) (cleared entries w)
cleared_same entries used (Numbers v) (Numbers w) h =
    let flag = λ (i : ℕ). is_used used i && is_missing (entry entries i) in
    agree_numbers used (λ i. cleared_number (entry entries i) (slice_index v i))
    (λ i. cleared_number (entry entries i) (slice_index w i))
    (λ i below u. number_cleared (entry entries i) (slice_index v i) (slice_index w i)
    (λ t. h.numbers i below (get_or-four flag i false below ∙ and_from (is_used used i) (is_missing (entry entries i)) u t)))
cleared_same entries used (Fractions v) (Fractions w) h =
    let flag = λ (i : ℕ). is_used used i && is_missing (entry entries i) in
    agree_fractions used (λ i. cleared_fraction (entry entries i) (fraction_in v i))
    (λ i. cleared_fraction (entry entries i) (fraction_in w i))
    (λ i below u. fraction_cleared (entry entries i) (fraction_in v i) (fraction_in w i)
    (λ t. h.fractions i below (get_or-four flag i false below ∙ and_from (is_used used i) (is_missing (entry entries i)) u t)))
cleared_same entries used (Numbers v) (Fractions w) h = absurd (let k = h.kind in cc)
cleared_same entries used (Fractions v) (Numbers w) h = absurd (let k = h.kind in cc)

-- ---- Swizzle
same_number : (k : ℕ) → nat_eq k k ≡ true
same_number k = eq-eqb k k refl

swizzled_same : (from : List ℕ) (used : List Bool) (v w : Values) → All (λ i. i < 4) from
    → Agree (four (λ i. any_of_four (λ j. is_used used j && nat_eq (slice_index from j) i))) v w
    → Agree used (swizzled from v) (swizzled from w)
swizzled_same from used (Numbers v) (Numbers w) good h =
    let test = λ (i j : ℕ). is_used used j && nat_eq (slice_index from j) i in
    agree_numbers used (λ i. slice_index v (slice_index from i)) (λ i. slice_index w (slice_index from i))
    (λ i below u. h.numbers (slice_index from i) (index_below from good i)
    (get_or-four (λ k. any_of_four (test k)) (slice_index from i) false (index_below from good i) ∙ any_from (test (slice_index from i))
    i below (and_from (is_used used i) (nat_eq (slice_index from i) (slice_index from i)) u (same_number (slice_index from i)))))
swizzled_same from used (Fractions v) (Fractions w) good h =
    let test = λ (i j : ℕ). is_used used j && nat_eq (slice_index from j) i in
    agree_fractions used (λ i. fraction_in v (slice_index from i)) (λ i. fraction_in w (slice_index from i))
    (λ i below u. h.fractions (slice_index from i) (index_below from good i)
    (get_or-four (λ k. any_of_four (test k)) (slice_index from i) false (index_below from good i) ∙ any_from (test (slice_index from i))
    i below (and_from (is_used used i) (nat_eq (slice_index from i) (slice_index from i)) u (same_number (slice_index from i)))))
swizzled_same from used (Numbers v) (Fractions w) good h = absurd (let k = h.kind in cc)
swizzled_same from used (Fractions v) (Numbers w) good h = absurd (let k = h.kind in cc)

-- ---- Convert
as_numbers_same : (expand : Bool) (count : ℕ) (used : List Bool) (v w : Values) → Agree used v w
    → Agree used (as_numbers expand count v) (as_numbers expand count w)
as_numbers_same expand count used (Numbers v) (Numbers w) h = map_numbers used (λ i n. n * (if expand then 257 else 1) % 2 ^ count)
    (Numbers v) (Numbers w) h
as_numbers_same expand count used (Fractions v) (Fractions w) h = map_floors used (λ i x. modulo (floor x) (2 ^ count)) (Fractions v)
    (Fractions w) h
as_numbers_same expand count used (Numbers v) (Fractions w) h = absurd (let k = h.kind in cc)
as_numbers_same expand count used (Fractions v) (Numbers w) h = absurd (let k = h.kind in cc)

converted_same : (to : PixType) (expand : Bool) (used : List Bool) (v w : Values) → Agree used v w
    → Agree used (converted to expand v) (converted to expand w)
converted_same Rat expand used (Numbers v) (Numbers w) h = agree_fractions used (λ i. nat (slice_index v i))
    (λ i. nat (slice_index w i)) (λ i below u. ap nat (h.numbers i below u))
converted_same Rat expand used (Fractions v) (Fractions w) h = h
converted_same Rat expand used (Numbers v) (Fractions w) h = absurd (let k = h.kind in cc)
converted_same Rat expand used (Fractions v) (Numbers w) h = absurd (let k = h.kind in cc)
converted_same U8 expand used v w h = as_numbers_same expand 8 used v w h
converted_same U16 expand used v w h = as_numbers_same expand 16 used v w h
converted_same U32 expand used v w h = as_numbers_same expand 32 used v w h

-- ---- an operation
pub used_step : (frame : List ℕ) (position : PixelPosition) (stage : Stage) (op : Op) (used : List Bool) (v w : Values)
    → are_good stage op ≡ true
    → Agree (used_before op used) v w → Agree used (apply frame position stage op v) (apply frame position stage op w)
unfolding apply used_before
used_step frame position stage (Read elem planes palette) used v w good h = agree_self used _
used_step frame position stage (Write elem planes) used v w good h = subst
    (λ (z : Values). Agree used (Numbers (four (λ i. written planes v i))) z) (write_same planes v w h) (agree_self used _)
used_step frame position stage SwapBytes used v w good h = map_numbers used (λ i n. reversed_bytes (bits_at stage / 8) n) v w h
used_step frame position stage (Unpack widths) used v w good h = unpacked_same widths used v w h
used_step frame position stage (Pack widths) used v w good h = packing_same widths used v w h
used_step frame position stage (Clear entries) used v w good h = cleared_same entries used v w h
used_step frame position stage (LeftShift n) used v w good h = map_numbers used (λ i x. x * 2 ^ n % 2 ^ bits_at stage) v w h
used_step frame position stage (RightShift n) used v w good h = map_numbers used (λ i x. x / 2 ^ n) v w h
used_step frame position stage (Swizzle from) used v w good h = swizzled_same from used v w (swizzle_lanes stage from good) h
used_step frame position stage (Convert to expand) used v w good h = converted_same to expand used v w h
used_step frame position stage (Dither k) used v w good h = map_fractions used (λ i x. x +ℚ dither_at k position.x position.y) v w h
used_step frame position stage (Linear rows) used v w good h = mapped_same rows used v w h
used_step frame position stage (Scale by) used v w good h = map_fractions used (λ i x. x *ℚ by) v w h
used_step frame position stage (Min limits) used v w good h = map_fractions used (λ i x. at_most (entry limits i) x) v w h
used_step frame position stage (Max limits) used v w good h = map_fractions used (λ i x. at_least (entry limits i) x) v w h

-- ---- a list
last_same : (frame : List ℕ) (position : PixelPosition) (stage : Stage) (op : Op) (used : List Bool) (v w : Values) → is_write op ≡ true
    → Agree (used_before op used) v w → apply frame position stage op v ≡ apply frame position stage op w
unfolding apply used_before
last_same frame position stage (Write elem planes) used v w is h = write_same planes v w h
last_same frame position stage _ used v w is h = absurd (cc)

pub unused_free : (frame : List ℕ) (position : PixelPosition) (stage : Stage) (ops : List Op) (v w : Values)
    → are_typed stage ops ≡ true → ends_with_write ops ≡ true
    → Agree (used_from ops) v w → run_from frame position stage ops v ≡ run_from frame position stage ops w
unfolding are_typed ends_with_write used_from run_from
unused_free frame position stage [] v w typed last h = absurd (cc)
unused_free frame position stage (op ∷ []) v w typed last h = last_same frame position stage op none_used v w last h
unused_free frame position stage (op ∷ next ∷ ops) v w typed last h =
    let t = typed_parts stage op (next ∷ ops) typed in
    unused_free frame position (stage_after stage op) (next ∷ ops) _ _ t.2 last
    (used_step frame position stage op (used_from (next ∷ ops)) v w t.1 h)
