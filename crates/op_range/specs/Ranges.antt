-- The ranges of the values after an operation, from those before it. A bound is a fraction, or not there.
use Rattle.std.specs.Prelude.{ℕ, ◌-◌, ◌*◌, ◌^◌, Bool, true, false, not, ◌&&◌, ◌||◌, if◌then◌else◌, nat_eq, nat_lt, List, [], ◌∷◌, sum}
use Rattle.std.specs.Prelude.{slice_index, slice_index_or, Option, Some, None, ℤ, pos, negsuc}
use Rattle.std.specs.Option.{option_map, option_and_then}
use Rattle.std.specs.Int.{int_div_euclid}
use Rattle.frac_math.specs.Fraction.{ℚ, nat, whole, over, floor, equal_ℚ, is_at_most, min_ℚ, max_ℚ}
use Rattle.frac_math.specs.Checked.{checked_sum, checked_product}
use Rattle.op_list.specs.declared.types.PixType.{PixType}
use Rattle.op_list.specs.declared.types.PixType.TheVariants.{U8, U16, U32, Rat}
use Rattle.op_list.specs.declared.types.Stage.{Stage}
use Rattle.op_list.specs.declared.op.Op.{Op}
use Rattle.op_list.specs.declared.op.Op.TheVariants.{Read, Write, SwapBytes, Unpack, Pack, Clear, LeftShift, RightShift, Swizzle}
use Rattle.op_list.specs.declared.op.Op.TheVariants.{Convert, Dither, Linear, Scale, Min, Max}
use Rattle.op_list.specs.Types.{bits, bits_at, is_rational}
use Rattle.op_list.specs.Values.{four, fraction_in, entry}
use Rattle.op_list.specs.Apply.{row_of}
use Rattle.op_list.specs.Typing.{stage_after}
use Rattle.op_range.specs.declared.range.ValueRange.{ValueRange}

abbrev pub range : Option ℚ → Option ℚ → Bool → ValueRange
range low high is_whole = record { least = low; greatest = high; whole = is_whole }

-- whole numbers from m to n
abbrev pub from_to : ℕ → ℕ → ValueRange
from_to m n = range (Some (nat m)) (Some (nat n)) true

abbrev pub only_zero : ValueRange
only_zero = from_to 0 0

-- the whole numbers of so many bits
abbrev pub full : ℕ → ValueRange
full count = from_to 0 (2 ^ count - 1)

-- the range of value i
abbrev pub range_in : List ValueRange → ℕ → ValueRange
range_in ranges i = slice_index_or ranges i only_zero

-- a bound that is there, and passes a test
abbrev pub is_there_and : (ℚ → Bool) → Option ℚ → Bool
is_there_and test None = false
is_there_and test (Some x) = test x

-- ---- whole types
-- x lies from 0 to 2^count - 1
abbrev pub lies_in_full : ℕ → ℚ → Bool
lies_in_full count x = is_at_most (nat 0) x && is_at_most x (nat (2 ^ count - 1))

-- both bounds are there and lie in full
abbrev pub fits_full : ℕ → ValueRange → Bool
fits_full count r = is_there_and (lies_in_full count) r.least && is_there_and (lies_in_full count) r.greatest

-- a range where it fits so many bits, else another one
abbrev pub where_it_fits : ℕ → ValueRange → ValueRange → ValueRange
where_it_fits count r other = if fits_full count r then r else other

-- a bound times c
abbrev pub times : ℚ → Option ℚ → Option ℚ
times c bound = option_and_then (λ x. checked_product x c) bound

-- both bounds of whole numbers times n
abbrev pub multiplied_range : ℕ → ValueRange → ValueRange
multiplied_range n r = range (times (nat n) r.least) (times (nat n) r.greatest) true

-- both bounds floored
abbrev pub floored_range : ValueRange → ValueRange
floored_range r = range (option_map (λ x. whole (floor x)) r.least) (option_map (λ x. whole (floor x)) r.greatest) true

-- a bound divided by 2^n and floored
abbrev pub shifted_right : ℕ → ℚ → ℚ
shifted_right n x = whole (int_div_euclid (floor x) (pos (2 ^ n)))

abbrev pub is_zero_bound : Option ℚ → Bool
is_zero_bound bound = is_there_and (λ x. equal_ℚ x (nat 0)) bound

abbrev pub swapped_range : ℕ → ValueRange → ValueRange
swapped_range count r = if is_zero_bound r.least && is_zero_bound r.greatest then only_zero else full count

abbrev pub left_range : ℕ → ℕ → ValueRange → ValueRange
left_range count n r = where_it_fits count (multiplied_range (2 ^ n) r) (from_to 0 (2 ^ count - 2 ^ n))

abbrev pub right_range : ℕ → ValueRange → ValueRange
right_range n r = range (option_map (shifted_right n) r.least) (option_map (shifted_right n) r.greatest) true

-- from a whole type, or from fractions, to the type of so many bits
abbrev pub as_whole_range : ℕ → Bool → Bool → ValueRange → ValueRange
as_whole_range count expand rational r =
    if rational then (if fits_full count r then floored_range r else full count)
    else where_it_fits count (multiplied_range (if expand then 257 else 1) r) (full count)

abbrev pub converted_range : PixType → Bool → Bool → ValueRange → ValueRange
converted_range Rat expand rational r = range r.least r.greatest (r.whole || not rational)
converted_range U8 expand rational r = as_whole_range 8 expand rational r
converted_range U16 expand rational r = as_whole_range 16 expand rational r
converted_range U32 expand rational r = as_whole_range 32 expand rational r

-- ---- any type
-- a fraction that is a whole number
abbrev pub is_whole_number : ℚ → Bool
is_whole_number x = nat_eq x.denominator 1

abbrev pub cleared_range : Option ℚ → ValueRange → ValueRange
cleared_range None r = r
cleared_range (Some x) r = range (Some x) (Some x) (is_whole_number x)

-- ---- fractions
abbrev pub is_below_zero : ℤ → Bool
is_below_zero (pos n) = false
is_below_zero (negsuc n) = true

abbrev pub is_negative : ℚ → Bool
is_negative x = is_below_zero x.numerator

-- a value times c: a negative c exchanges the bounds
abbrev pub scaled_range : ℚ → ValueRange → ValueRange
scaled_range c r =
    let low = times c r.least in
    let high = times c r.greatest in
    let still_whole = is_whole_number c && r.whole in
    if is_negative c then range high low still_whole else range low high still_whole

-- a coefficient times a bound; that of 0 is 0, even where the bound is not there
abbrev pub product_of : ℚ → Option ℚ → Option ℚ
product_of c bound = if equal_ℚ c (nat 0) then Some (nat 0) else option_and_then (λ x. checked_product c x) bound

-- the least, and the greatest, of a coefficient's product
abbrev pub least_product : ℚ → ValueRange → Option ℚ
least_product c r = if is_negative c then product_of c r.greatest else product_of c r.least

abbrev pub greatest_product : ℚ → ValueRange → Option ℚ
greatest_product c r = if is_negative c then product_of c r.least else product_of c r.greatest

-- a coefficient keeps whole numbers whole
abbrev pub keeps_whole : ℚ → ValueRange → Bool
keeps_whole c r = is_whole_number c && (equal_ℚ c (nat 0) || r.whole)

-- the checked sum of bounds that are there
abbrev pub sum_of : Option ℚ → Option ℚ → Option ℚ
sum_of a b = option_and_then (λ x. option_and_then (λ y. checked_sum x y) b) a

-- the constant and the products, each added to the sum so far
abbrev pub row_sum : List ℚ → (ℕ → Option ℚ) → Option ℚ
row_sum row term = sum_of (sum_of (sum_of (sum_of (Some (fraction_in row 4)) (term 0)) (term 1)) (term 2)) (term 3)

abbrev pub row_range : List ℚ → List ValueRange → ValueRange
row_range row ranges =
    range (row_sum row (λ j. least_product (fraction_in row j) (range_in ranges j)))
    (row_sum row (λ j. greatest_product (fraction_in row j) (range_in ranges j)))
    (keeps_whole (fraction_in row 0) (range_in ranges 0) && keeps_whole (fraction_in row 1) (range_in ranges 1)
    && keeps_whole (fraction_in row 2) (range_in ranges 2) && keeps_whole (fraction_in row 3) (range_in ranges 3)
    && is_whole_number (fraction_in row 4))

-- the dither lies from 1/(2 * 4^k) to 1 - 1/(2 * 4^k)
abbrev pub dithered_range : ℕ → ValueRange → ValueRange
dithered_range k r =
    range (option_and_then (λ x. checked_sum x (over (pos 1) (2 * 4 ^ k))) r.least)
    (option_and_then (λ x. checked_sum x (over (pos (2 * 4 ^ k - 1)) (2 * 4 ^ k))) r.greatest) false

-- a limit that is not given is taken as whole
abbrev pub is_whole_limit : Option ℚ → Bool
is_whole_limit None = true
is_whole_limit (Some x) = is_whole_number x

-- a bound, where it is there, and a limit
abbrev pub limited : (ℚ → ℚ → ℚ) → Option ℚ → Option ℚ → Option ℚ
limited pick limit None = None
limited pick None (Some x) = Some x
limited pick (Some l) (Some x) = Some (pick x l)

-- the limit itself where the bound is not there
abbrev pub limited_or_limit : (ℚ → ℚ → ℚ) → Option ℚ → Option ℚ → Option ℚ
limited_or_limit pick limit None = limit
limited_or_limit pick None (Some x) = Some x
limited_or_limit pick (Some l) (Some x) = Some (pick x l)

abbrev pub range_at_most : Option ℚ → ValueRange → ValueRange
range_at_most limit r = range (limited min_ℚ limit r.least) (limited_or_limit min_ℚ limit r.greatest) (r.whole && is_whole_limit limit)

abbrev pub range_at_least : Option ℚ → ValueRange → ValueRange
range_at_least limit r = range (limited_or_limit max_ℚ limit r.least) (limited max_ℚ limit r.greatest) (r.whole && is_whole_limit limit)

-- ---- an operation
unfoldable pub ranges_after : Stage → Op → List ValueRange → List ValueRange
ranges_after stage (Read elem planes palette) ranges =
    four (λ i. if palette || nat_lt i (sum planes) then full (bits elem) else only_zero)
ranges_after stage (Write elem planes) ranges = four (λ i. range (range_in ranges i).least (range_in ranges i).greatest true)
ranges_after stage SwapBytes ranges = four (λ i. swapped_range (bits_at stage) (range_in ranges i))
ranges_after stage (Unpack widths) ranges = four (λ i. full (slice_index widths i))
ranges_after stage (Pack widths) ranges = full (sum widths) ∷ only_zero ∷ only_zero ∷ only_zero ∷ []
ranges_after stage (Clear entries) ranges = four (λ i. cleared_range (entry entries i) (range_in ranges i))
ranges_after stage (LeftShift n) ranges = four (λ i. left_range (bits_at stage) n (range_in ranges i))
ranges_after stage (RightShift n) ranges = four (λ i. right_range n (range_in ranges i))
ranges_after stage (Swizzle from) ranges = four (λ i. range_in ranges (slice_index from i))
ranges_after stage (Convert to expand) ranges = four (λ i. converted_range to expand (is_rational stage) (range_in ranges i))
ranges_after stage (Dither k) ranges = four (λ i. dithered_range k (range_in ranges i))
ranges_after stage (Linear rows) ranges = four (λ i. row_range (row_of rows i) ranges)
ranges_after stage (Scale by) ranges = four (λ i. scaled_range by (range_in ranges i))
ranges_after stage (Min limits) ranges = four (λ i. range_at_most (entry limits i) (range_in ranges i))
ranges_after stage (Max limits) ranges = four (λ i. range_at_least (entry limits i) (range_in ranges i))

-- before the Read all values are 0
abbrev pub start_ranges : List ValueRange
start_ranges = four (λ i. only_zero)

-- the ranges after some operations
unfoldable pub ranges_from : Stage → List Op → List ValueRange → List ValueRange
ranges_from stage [] ranges = ranges
ranges_from stage (op ∷ ops) ranges = ranges_from (stage_after stage op) ops (ranges_after stage op ranges)
