-- Numerators of all four values over one denominator, within the width of a list, where own denominators do not fit.
use Rattle.std.specs.Prelude.{◌≡◌, ◌⊎◌, ℕ, ◌+◌, ◌*◌, ◌/◌, ◌^◌, ◌<◌, ◌≤◌, max, true, List, drop, Option, IfSome, ℤ, pos, ◌*ℤ◌, unsigned_abs}
use Rattle.std.specs.Prelude.{◌<ℤ◌}
use Rattle.op_list.specs.declared.types.Stage.{Stage}
use Rattle.frac_math.specs.Fraction.{ℚ}
use Rattle.op_list.specs.declared.op.Op.{Op}
use Rattle.op_list.specs.declared.op.Op.TheVariants.{Read, Write, SwapBytes, Unpack, Pack, Clear, LeftShift, RightShift, Swizzle}
use Rattle.op_list.specs.declared.op.Op.TheVariants.{Convert, Dither, Linear, Scale, Min, Max}
use Rattle.op_list.specs.Values.{entry, fraction_in}
use Rattle.op_list.specs.Types.{bits_at, is_rational}
use Rattle.op_list.specs.Typing.{are_typed, may_follow, are_good, stage_after}
use Rattle.op_range.specs.declared.width.Width.{Width}
use Rattle.op_range.specs.Width.{size_in, own_width_from, size_over, limited_size, width, width_after}
use Rattle.kernel_step.specs.declared.form.Extent.{Extent}
use Rattle.kernel_step.specs.declared.form.Form.{Form}
use Rattle.kernel_step.specs.declared.form.NumberWidth.{NumberWidth}
use Rattle.kernel_step.specs.declared.form.NumberWidth.TheVariants.{Bits32, Bits64, Bits128}
use Rattle.kernel_step.specs.Forms.{AreHeld, IsRow, IsStep, extent_at, factor, stage_before, width_of}
use Rattle.kernel_step.specs.ValueSteps.{IsIn, IsMade, is_by_value}

-- how large the numbers of a width may be, so that all that is worked out with them fits it
abbrev pub room : NumberWidth → ℕ
room Bits32 = 2 ^ 30
room Bits64 = 2 ^ 62
room Bits128 = 2 ^ 126

-- the numbers of a width are below that
pub record IsSmall (number_width : NumberWidth) (width : Width) : Type 0 where
  pub positive : 0 < width.denominator
  pub denominator : width.denominator < room number_width
  pub sizes : (i : ℕ) → i < 4 → size_in width i < room number_width

-- two widths of the same numbers
pub record AreSame (width other : Width) : Type 0 where
  pub denominator : width.denominator ≡ other.denominator
  pub sizes : (i : ℕ) → i < 4 → size_in width i ≡ size_in other i

-- a width before operation k of a list, from which no later operation of a list of a small width reaches the room
pub record IsWalked (number_width : NumberWidth) (ops : List Op) (k : ℕ) (next : Width) : Type 0 where
  pub typed : are_typed (stage_before ops k) (drop k ops) ≡ true
  pub small : IsSmall number_width next
  pub fits : width ops < room number_width → (i : ℕ) → i < 4 → own_width_from (stage_before ops k) (drop k ops) next i < room number_width

-- ---- extents
-- the greatest numerator of an extent, without its sign
abbrev pub extent_size : Extent → ℕ
extent_size extent = max (unsigned_abs extent.least) (unsigned_abs extent.greatest)

-- all numerators over d that are no greater than a size
pub record IsAround (extent : Extent) (d size : ℕ) : Type 0 where
  pub denominator : extent.denominator ≡ pos d
  pub most : extent_size extent ≤ size
  pub inside : (n : ℤ) → unsigned_abs n ≤ size → IsIn extent n

-- numerators over a denominator that divides d, which over d itself are no greater than a size
pub record HasWidth (extent : Extent) (d size : ℕ) : Type 0 where
  pub positive : pos 0 <ℤ extent.denominator
  pub factor : ℕ
  pub over : unsigned_abs extent.denominator * factor ≡ d
  pub most : extent_size extent * factor ≤ size

-- ---- an operation that makes each value from that value alone; e is how many times the joint denominator grows, and d what it becomes
abbrev pub made_denominator : Op → Extent → ℕ → ℕ → ℕ
made_denominator (Scale by) old e d = unsigned_abs old.denominator * by.denominator
made_denominator (Dither k) old e d = d
made_denominator (Read elem planes palette) old e d = unsigned_abs old.denominator * e
made_denominator (Write elem planes) old e d = unsigned_abs old.denominator * e
made_denominator SwapBytes old e d = unsigned_abs old.denominator * e
made_denominator (Unpack widths) old e d = unsigned_abs old.denominator * e
made_denominator (Pack widths) old e d = unsigned_abs old.denominator * e
made_denominator (Clear entries) old e d = unsigned_abs old.denominator * e
made_denominator (LeftShift n) old e d = unsigned_abs old.denominator * e
made_denominator (RightShift n) old e d = unsigned_abs old.denominator * e
made_denominator (Swizzle from) old e d = unsigned_abs old.denominator * e
made_denominator (Convert to expand) old e d = unsigned_abs old.denominator * e
made_denominator (Linear rows) old e d = unsigned_abs old.denominator * e
made_denominator (Min limits) old e d = unsigned_abs old.denominator * e
made_denominator (Max limits) old e d = unsigned_abs old.denominator * e

abbrev pub made_size : Op → ℕ → Extent → ℕ → ℕ → ℕ
made_size (Scale by) v old e d = extent_size old * unsigned_abs by.numerator
made_size (Min limits) v old e d = limited_size e (unsigned_abs old.denominator) (entry limits v) (extent_size old)
made_size (Max limits) v old e d = limited_size e (unsigned_abs old.denominator) (entry limits v) (extent_size old)
made_size (Dither k) v old e d = extent_size old * (d / unsigned_abs old.denominator) + d
made_size (Read elem planes palette) v old e d = 0
made_size (Write elem planes) v old e d = 0
made_size SwapBytes v old e d = 0
made_size (Unpack widths) v old e d = 0
made_size (Pack widths) v old e d = 0
made_size (Clear entries) v old e d = 0
made_size (LeftShift n) v old e d = 0
made_size (RightShift n) v old e d = 0
made_size (Swizzle from) v old e d = 0
made_size (Convert to expand) v old e d = 0
made_size (Linear rows) v old e d = 0

abbrev pub IsLimit : NumberWidth → ℕ → Option ℚ → Type 0
IsLimit number_width e limit = (0 < e) × (e < room number_width) × IfSome limit (λ x. e / x.denominator * x.denominator ≡ e)

abbrev pub IsMultiple : ℕ → ℕ → Type 0
IsMultiple d n = d / n * n ≡ d

abbrev pub HasFactors : NumberWidth → Op → ℕ → Extent → ℕ → ℕ → Type 0
HasFactors number_width (Min limits) v old e d = IsLimit number_width e (entry limits v)
HasFactors number_width (Max limits) v old e d = IsLimit number_width e (entry limits v)
HasFactors number_width (Dither k) v old e d = (0 < d) × (k ≤ 4) × IsMultiple d (unsigned_abs old.denominator) × IsMultiple d (2 * 4 ^ k)
HasFactors number_width (Read elem planes palette) v old e d = 0 ≤ 0
HasFactors number_width (Write elem planes) v old e d = 0 ≤ 0
HasFactors number_width SwapBytes v old e d = 0 ≤ 0
HasFactors number_width (Unpack widths) v old e d = 0 ≤ 0
HasFactors number_width (Pack widths) v old e d = 0 ≤ 0
HasFactors number_width (Clear entries) v old e d = 0 ≤ 0
HasFactors number_width (LeftShift n) v old e d = 0 ≤ 0
HasFactors number_width (RightShift n) v old e d = 0 ≤ 0
HasFactors number_width (Swizzle from) v old e d = 0 ≤ 0
HasFactors number_width (Convert to expand) v old e d = 0 ≤ 0
HasFactors number_width (Linear rows) v old e d = 0 ≤ 0
HasFactors number_width (Scale by) v old e d = 0 ≤ 0

-- all that such an operation works out for value v is below the room
pub record MadeFits (number_width : NumberWidth) (op : Op) (v : ℕ) (old : Extent) (e d : ℕ) : Type 0 where
  pub by_value : is_by_value op ≡ true
  pub positive : pos 0 <ℤ old.denominator
  pub denominator : made_denominator op old e d < room number_width
  pub size : made_size op v old e d < room number_width
  pub factors : HasFactors number_width op v old e d

-- the factors and the new extent of value v are those of the operation, with the denominator and at most the size that it makes
abbrev pub MadeWithin : NumberWidth → Op → ℕ → Extent → ℕ → ℕ → List ℤ → Extent → Type 0
MadeWithin number_width op v old e d factors new =
    IsMade (width_of number_width) op v old (factor factors 0) (factor factors 1) new
    × (new.denominator ≡ pos (made_denominator op old e d)) × (extent_size new ≤ made_size op v old e d)

-- ---- a row of Linear
-- k over d times e is the coefficient times a number over the old denominator; or k is 0, and so is the coefficient or the value
abbrev pub IsFactorOf : Extent → ℚ → ℤ → ℕ → Type 0
IsFactorOf old coefficient k d =
    (k *ℤ pos (unsigned_abs old.denominator * coefficient.denominator) ≡ coefficient.numerator *ℤ pos d)
    ⊎ ((k ≡ pos 0) × ((coefficient.numerator ≡ pos 0) ⊎ ((old.least ≡ pos 0) × (old.greatest ≡ pos 0))))

-- the greatest product with the numbers of an extent
abbrev pub term_most : ℕ → ℕ → ℚ → Extent → ℕ
term_most e d coefficient old = size_over e coefficient * (extent_size old * (d / unsigned_abs old.denominator))

abbrev pub row_most : ℕ → ℕ → List ℚ → Form → ℕ
row_most e d row before =
    term_most e d (fraction_in row 0) (extent_at before 0) + term_most e d (fraction_in row 1) (extent_at before 1)
    + term_most e d (fraction_in row 2) (extent_at before 2) + term_most e d (fraction_in row 3) (extent_at before 3)
    + size_over e (fraction_in row 4) * d

-- the greatest product with factor j, and the greatest sum
abbrev pub part : Form → List ℤ → ℕ → ℕ
part before factors j = unsigned_abs (factor factors j) * extent_size (extent_at before j)

abbrev pub row_total : Form → List ℤ → ℕ
row_total before factors =
    unsigned_abs (factor factors 4) + part before factors 0 + part before factors 1 + part before factors 2 + part before factors 3

-- all that a row works out is below the room
pub record RowWithin (number_width : NumberWidth) (e d : ℕ) (row : List ℚ) (before : Form) : Type 0 where
  pub count : before.count ≡ 4
  pub some : (0 < e) × (0 < d)
  pub denominator : d * e < room number_width
  pub positive : (j : ℕ) → j < 4 → pos 0 <ℤ (extent_at before j).denominator
  pub over : (j : ℕ) → j < 4 → IsMultiple d (unsigned_abs (extent_at before j).denominator)
  pub whole : (j : ℕ) → j < 5 → IsMultiple e (fraction_in row j).denominator
  pub most : row_most e d row before < room number_width

-- the factors and the new extent are those of a row, with the joint denominator and at most its size
abbrev pub RowMade : NumberWidth → ℕ → ℕ → List ℚ → Form → List ℤ → Extent → Type 0
RowMade number_width e d row before factors new =
    IsRow (width_of number_width) before row factors new × (new.denominator ≡ pos (d * e)) × (extent_size new ≤ row_most e d row before)

-- ---- forms
-- four values, and where they are fractions the extent of each has its width
pub record IsJoint (stage : Stage) (form : Form) (width : Width) : Type 0 where
  pub count : form.count ≡ 4
  pub extents : is_rational stage ≡ true → (v : ℕ) → v < 4 → HasWidth (extent_at form v) width.denominator (size_in width v)

-- ---- a step
-- what an operation within the width of a list is given: a form within the width before it, and the width after it
pub record IsGiven (number_width : NumberWidth) (stage : Stage) (op : Op) (before : Form) (width next : Width) : Type 0 where
  pub follows : may_follow stage op ≡ true
  pub good : are_good stage op ≡ true
  pub joint : IsJoint stage before width
  pub small : IsSmall number_width width
  pub same : AreSame next (width_after stage op width)
  pub next_small : IsSmall number_width next

-- the numbers of a form are those of the operation, and within the width after it
pub record IsJointStep (number_width : NumberWidth) (bits : ℕ) (stage : Stage) (before : Form) (op : Op) (after : Form) (next : Width)
    : Type 0 where
  pub few : after.count ≤ 4
  pub step : IsStep bits (width_of number_width) stage before op after
  pub held : AreHeld (width_of number_width) (λ v. 2 ^ bits_at stage) stage op after
  pub joint : IsJoint (stage_after stage op) after next
