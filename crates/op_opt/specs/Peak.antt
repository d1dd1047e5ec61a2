-- The peak of a list: the width's state with one number more, which bounds what a value may be that is not used.
use Rattle.std.specs.Prelude.{◌≡◌, ◌≤◌, ℕ, ◌+◌, ◌-◌, ◌*◌, ◌^◌, max, Bool, true, if◌then◌else◌, List, [], ◌∷◌, Option, Some, None}
use Rattle.std.specs.Prelude.{unsigned_abs}
use Rattle.frac_math.specs.Fraction.{ℚ}
use Rattle.op_list.specs.declared.types.Stage.{Stage}
use Rattle.op_list.specs.declared.types.Stage.TheVariants.{Start}
use Rattle.op_list.specs.declared.op.Op.{Op}
use Rattle.op_list.specs.declared.op.Op.TheVariants.{Read, Write, SwapBytes, Unpack, Pack, Clear, LeftShift, RightShift, Swizzle}
use Rattle.op_list.specs.declared.op.Op.TheVariants.{Convert, Dither, Linear, Scale, Min, Max}
use Rattle.op_list.specs.Types.{bits_at, is_rational}
use Rattle.op_list.specs.Values.{entry}
use Rattle.op_list.specs.Apply.{row_of}
use Rattle.op_list.specs.Typing.{stage_after, IsOpList, ends_with_write}
use Rattle.op_range.specs.declared.width.Width.{Width}
use Rattle.op_range.specs.FractionBounds.{factor}
use Rattle.op_range.specs.Used.{is_used, used_from}
use Rattle.op_range.specs.Width.{rows_denominator, entries_denominator, size_over, row_size, whole_width, width_after, width}
use Rattle.op_opt.specs.Normal.{normal}

-- the denominator and the sizes of four fractions, and the greatest size so far, over the same denominator
pub record Peaked : Type 0 where
  pub width : Width
  pub peak : ℕ

abbrev pub greatest_of_four : (ℕ → ℕ) → ℕ
greatest_of_four f = max (max (f 0) (f 1)) (max (f 2) (f 3))

-- the size of an entry over d times e, and 0 where none is given
abbrev pub given_size : ℕ → ℕ → Option ℚ → ℕ
given_size e d None = 0
given_size e d (Some x) = size_over e x * d

-- the entries count whether their values are used or not
abbrev pub entries_peak : List (Option ℚ) → Peaked → ℕ
entries_peak entries s =
    let e = entries_denominator entries in
    max (s.peak * e) (greatest_of_four (λ i. given_size e s.width.denominator (entry entries i)))

-- the rows count whose values are used after them
abbrev pub rows_peak : List (List ℚ) → List Bool → Peaked → ℕ
rows_peak rows used s =
    let e = rows_denominator rows in
    max (s.peak * e) (greatest_of_four (λ i. if is_used used i then row_size e (row_of rows i) s.width else 0))

abbrev pub dithered_peak : ℕ → Peaked → ℕ
dithered_peak k s = let f = factor s.width.denominator (2 * 4 ^ k) in s.peak * f + s.width.denominator * f

-- the greatest size after an operation on fractions, from the values that are used after it
unfoldable pub fractions_peak : Op → List Bool → Peaked → ℕ
fractions_peak (Read elem planes palette) used s = s.peak
fractions_peak (Write elem planes) used s = s.peak
fractions_peak SwapBytes used s = s.peak
fractions_peak (Unpack widths) used s = s.peak
fractions_peak (Pack widths) used s = s.peak
fractions_peak (Clear entries) used s = entries_peak entries s
fractions_peak (LeftShift n) used s = s.peak
fractions_peak (RightShift n) used s = s.peak
fractions_peak (Swizzle from) used s = s.peak
fractions_peak (Convert to expand) used s = s.peak
fractions_peak (Dither k) used s = dithered_peak k s
fractions_peak (Linear rows) used s = rows_peak rows used s
fractions_peak (Scale by) used s = s.peak * max (unsigned_abs by.numerator) by.denominator
fractions_peak (Min limits) used s = entries_peak limits s
fractions_peak (Max limits) used s = entries_peak limits s

-- after an operation; a whole type is about to become fractions
unfoldable pub peaked_after : Stage → Op → List Bool → Peaked → Peaked
peaked_after stage op used s = record {
  width = width_after stage op s.width;
  peak = if is_rational stage then fractions_peak op used s else 2 ^ bits_at stage - 1;
}

-- the greatest size after any of some operations that leaves fractions
unfoldable pub peak_from : Stage → List Op → Peaked → ℕ
peak_from stage [] s = 0
peak_from stage (op ∷ ops) s =
    let next = stage_after stage op in
    let after = peaked_after stage op (used_from ops) s in
    max (if is_rational next then after.peak else 0) (peak_from next ops after)

abbrev pub start_peaked : Peaked
start_peaked = record { width = whole_width 0; peak = 0 }

-- the peak of a list, and 2^32 where there is no greater one
unfoldable pub peak : List Op → ℕ
peak ops = max (2 ^ 32) (peak_from Start ops start_peaked)

-- the normal list of a whole list is at most as wide as the list's peak
abbrev pub NormalIsNarrow : Type 0
NormalIsNarrow = (ops : List Op) → IsOpList ops → ends_with_write ops ≡ true → width (normal ops) ≤ peak ops
