-- The width of a list: how large the numbers are where four fractions are held as numerators over one denominator.
use Rattle.std.specs.Prelude.{◌≤◌, ◌<◌, ℕ, ◌+◌, ◌-◌, ◌*◌, ◌/◌, ◌^◌, max, Bool, false, ◌||◌, if◌then◌else◌, List, [], ◌∷◌, slice_index}
use Rattle.std.specs.Prelude.{Option, Some, None, unsigned_abs}
use Rattle.frac_math.specs.Fraction.{ℚ}
use Rattle.op_list.specs.declared.types.Stage.{Stage}
use Rattle.op_list.specs.declared.types.Stage.TheVariants.{Start}
use Rattle.op_list.specs.declared.op.Op.{Op}
use Rattle.op_list.specs.declared.op.Op.TheVariants.{Read, Write, SwapBytes, Unpack, Pack, Clear, LeftShift, RightShift, Swizzle}
use Rattle.op_list.specs.declared.op.Op.TheVariants.{Convert, Dither, Linear, Scale, Min, Max}
use Rattle.op_list.specs.Types.{bits_at, is_rational}
use Rattle.op_list.specs.Values.{four, fraction_in, entry}
use Rattle.op_list.specs.Apply.{row_of}
use Rattle.op_list.specs.Typing.{stage_after}
use Rattle.op_range.specs.declared.width.Width.{Width}
use Rattle.op_range.specs.FractionBounds.{factor}

-- ---- common denominators
abbrev pub common_multiple : ℕ → ℕ → ℕ
common_multiple m n = m * factor m n

-- the least common multiple of e and the denominators of some fractions
abbrev pub denominator_over : ℕ → List ℚ → ℕ
denominator_over e [] = e
denominator_over e (x ∷ xs) = common_multiple (denominator_over e xs) x.denominator

-- the least common denominator of all numbers of some rows
abbrev pub rows_denominator : List (List ℚ) → ℕ
rows_denominator [] = 1
rows_denominator (row ∷ rows) = denominator_over (rows_denominator rows) row

-- the least common multiple of e and the denominator of an entry, where one is given
abbrev pub multiple_with : ℕ → Option ℚ → ℕ
multiple_with e None = e
multiple_with e (Some x) = common_multiple e x.denominator

-- the least common denominator of the entries that are given
abbrev pub entries_denominator : List (Option ℚ) → ℕ
entries_denominator [] = 1
entries_denominator (given ∷ entries) = multiple_with (entries_denominator entries) given

-- the size of the numerator of x over e, a multiple of its denominator
abbrev pub size_over : ℕ → ℚ → ℕ
size_over e x = unsigned_abs x.numerator * (e / x.denominator)

-- ---- an operation
abbrev pub width_of : ℕ → (ℕ → ℕ) → Width
width_of d size = record { denominator = d; sizes = four size }

-- the size of numerator i
abbrev pub size_in : Width → ℕ → ℕ
size_in w i = slice_index w.sizes i

abbrev pub term_size : ℕ → List ℚ → Width → ℕ → ℕ
term_size e row w j = size_over e (fraction_in row j) * size_in w j

abbrev pub row_size : ℕ → List ℚ → Width → ℕ
row_size e row w =
    term_size e row w 0 + term_size e row w 1 + term_size e row w 2 + term_size e row w 3 + size_over e (fraction_in row 4) * w.denominator

abbrev pub mapped_width : List (List ℚ) → Width → Width
mapped_width rows w = let e = rows_denominator rows in width_of (w.denominator * e) (λ i. row_size e (row_of rows i) w)

-- f times the denominator is the least common multiple with that of the dither
abbrev pub dithered_width : ℕ → Width → Width
dithered_width k w = let f = factor w.denominator (2 * 4 ^ k) in width_of (w.denominator * f) (λ i. size_in w i * f + w.denominator * f)

abbrev pub scaled_width : ℚ → Width → Width
scaled_width by w = width_of (w.denominator * by.denominator) (λ i. size_in w i * unsigned_abs by.numerator)

-- a value that is cleared, or limited, where d is the denominator and e that of the entries
abbrev pub cleared_size : ℕ → ℕ → Option ℚ → ℕ → ℕ
cleared_size e d None size = size * e
cleared_size e d (Some x) size = size_over e x * d

abbrev pub limited_size : ℕ → ℕ → Option ℚ → ℕ → ℕ
limited_size e d None size = size * e
limited_size e d (Some x) size = max (size * e) (size_over e x * d)

abbrev pub cleared_width : List (Option ℚ) → Width → Width
cleared_width entries w =
    let e = entries_denominator entries in width_of (w.denominator * e) (λ i. cleared_size e w.denominator (entry entries i) (size_in w i))

abbrev pub limited_width : List (Option ℚ) → Width → Width
limited_width limits w =
    let e = entries_denominator limits in width_of (w.denominator * e) (λ i. limited_size e w.denominator (entry limits i) (size_in w i))

-- after an operation on fractions
unfoldable pub fractions_width : Op → Width → Width
fractions_width (Read elem planes palette) w = w
fractions_width (Write elem planes) w = w
fractions_width SwapBytes w = w
fractions_width (Unpack widths) w = w
fractions_width (Pack widths) w = w
fractions_width (Clear entries) w = cleared_width entries w
fractions_width (LeftShift n) w = w
fractions_width (RightShift n) w = w
fractions_width (Swizzle from) w = width_of w.denominator (λ i. size_in w (slice_index from i))
fractions_width (Convert to expand) w = w
fractions_width (Dither k) w = dithered_width k w
fractions_width (Linear rows) w = mapped_width rows w
fractions_width (Scale by) w = scaled_width by w
fractions_width (Min limits) w = limited_width limits w
fractions_width (Max limits) w = limited_width limits w

-- whole numbers of so many bits over 1
abbrev pub whole_width : ℕ → Width
whole_width count = width_of 1 (λ i. 2 ^ count - 1)

-- after an operation; a whole type is about to become fractions
unfoldable pub width_after : Stage → Op → Width → Width
width_after stage op w = if is_rational stage then fractions_width op w else whole_width (bits_at stage)

-- ---- a list
-- the greater of the denominator and the size of value i
abbrev pub own_size : Width → ℕ → ℕ
own_size w i = max w.denominator (size_in w i)

-- the greatest of them after any of some operations that leaves fractions
unfoldable pub own_width_from : Stage → List Op → Width → ℕ → ℕ
own_width_from stage [] w i = 0
own_width_from stage (op ∷ ops) w i =
    let next = stage_after stage op in
    let after = width_after stage op w in
    max (if is_rational next then own_size after i else 0) (own_width_from next ops after i)

-- one of some operations leaves fractions
unfoldable pub has_fractions : Stage → List Op → Bool
has_fractions stage [] = false
has_fractions stage (op ∷ ops) = let next = stage_after stage op in is_rational next || has_fractions next ops

-- the width of value i, and 2^32 where there are no fractions
unfoldable pub own_width : List Op → ℕ → ℕ
own_width ops i = if has_fractions Start ops then own_width_from Start ops (whole_width 0) i else 2 ^ 32

-- the width of a list
unfoldable pub width : List Op → ℕ
width ops = max (max (own_width ops 0) (own_width ops 1)) (max (own_width ops 2) (own_width ops 3))

-- value i is the lowest one whose own width reaches 2^126
pub record IsLowestTooWide (ops : List Op) (i : ℕ) : Type 0 where
  pub value : i < 4
  pub too_wide : 2 ^ 126 ≤ own_width ops i
  pub lowest : (j : ℕ) → j < i → own_width ops j < 2 ^ 126
