-- What a block holds after some operations, and when the numbers that a kernel works with are those of an operation.
use Rattle.std.specs.Prelude.{◌≡◌, ℕ, ◌+◌, ◌-◌, ◌*◌, ◌^◌, ◌<◌, ◌≤◌, Bool, true, false, List, [], length, take, Option, Some, None, sum}
use Rattle.std.specs.Prelude.{slice_index, slice_index_or, ℤ, pos, ◌≤ℤ◌, ◌*ℤ◌, ◌/◌, ◌⊎◌, unsigned_abs, FitsSigned, min, not, All}
use Rattle.std.specs.Int.{Width, w32, w64, w128}
use Rattle.frac_math.specs.Standing.{Stands}
use Rattle.frac_math.specs.Fraction.{ℚ}
use Rattle.op_list.specs.declared.types.Stage.{Stage}
use Rattle.op_list.specs.declared.types.Stage.TheVariants.{Start}
use Rattle.op_list.specs.declared.types.PixType.{PixType}
use Rattle.op_list.specs.declared.op.Op.{Op}
use Rattle.op_list.specs.declared.op.Op.TheVariants.{Read, Write, SwapBytes, Unpack, Pack, Clear, LeftShift, RightShift, Swizzle, Convert}
use Rattle.op_list.specs.declared.op.Op.TheVariants.{Dither, Linear, Scale, Min, Max}
use Rattle.op_list.specs.declared.position.PixelPosition.{PixelPosition}
use Rattle.op_list.specs.declared.values.Values.{Values}
use Rattle.op_list.specs.Types.{bits_at, is_whole, is_whole_type, is_rational, bits as type_bits}
use Rattle.op_list.specs.Typing.{stage_after, stage_from, are_typed, ends_with_write}
use Rattle.op_list.specs.Values.{number, fraction, fraction_in, four, no_values, are_fractions, entry}
use Rattle.op_list.specs.Apply.{apply, row_of}
use Rattle.op_list.specs.Run.{run_from}
use Rattle.op_range.specs.Ranges.{only_zero}
use Rattle.op_range.specs.States.{comp_range, states_of}
use Rattle.op_range.specs.declared.state.CompRange.{CompRange}
use Rattle.op_range.specs.declared.state.StateRange.{StateRange}
use Rattle.kernel_step.specs.declared.form.Extent.{Extent}
use Rattle.kernel_step.specs.declared.form.Divisor.{Divisor}
use Rattle.kernel_step.specs.declared.form.Divisor.TheVariants.{Short}
use Rattle.kernel_step.specs.declared.form.Form.{Form}
use Rattle.kernel_step.specs.declared.form.Storage.{Storage}
use Rattle.kernel_step.specs.declared.form.Storage.TheVariants.{Bytes, Words, DoubleWords}
use Rattle.kernel_step.specs.declared.form.NumberWidth.{NumberWidth}
use Rattle.kernel_step.specs.declared.form.NumberWidth.TheVariants.{Bits32, Bits64, Bits128}
use Rattle.kernel_step.specs.Rules.{RowFits, row_sum}
use Rattle.kernel_step.specs.ValueSteps.{IsDivided, IsMade}
use Rattle.kernel_planes.specs.Block.{Holds, AreBelow, pixel_at}
use Rattle.kernel_planes.specs.Planes.{planes_of}

abbrev pub no_extent : Extent
no_extent = record { denominator = pos 0; least = pos 0; greatest = pos 0 }

-- the extent of value v
abbrev pub extent_at : Form → ℕ → Extent
extent_at form v = slice_index_or form.extents v no_extent

abbrev pub no_form : Form
no_form = record { count = 0; extents = []; factors = []; divisors = [] }

abbrev pub form_at : List Form → ℕ → Form
form_at forms k = slice_index_or forms k no_form

abbrev pub op_at : List Op → ℕ → Op
op_at ops k = slice_index_or ops k SwapBytes

abbrev pub stage_before : List Op → ℕ → Stage
stage_before ops k = stage_from Start (take k ops)

-- the values of the pixels of a block before operation k
unfoldable pub values_before : List Op → List ℕ → PixelPosition → ℕ → ℕ → Values
values_before ops frame position k i = run_from frame (pixel_at position i) Start (take k ops) no_values

-- ---- what is known of whole numbers
-- a limit above each whole number of so many bits that is at most a bound
abbrev pub limit_of : Option ℚ → ℕ → ℕ
limit_of None bits = 2 ^ bits
limit_of (Some x) bits = min (2 ^ bits) (unsigned_abs x.numerator / x.denominator + 1)

abbrev pub no_range : CompRange
no_range = comp_range only_zero false

abbrev pub no_state : StateRange
no_state = record { comps = [] }

-- the range of value v
abbrev pub range_at : StateRange → ℕ → CompRange
range_at state v = slice_index_or state.comps v no_range

abbrev pub limits_in : StateRange → ℕ → List ℕ
limits_in state bits = four (λ v. limit_of (range_at state v).greatest bits)

abbrev pub state_at : List StateRange → ℕ → StateRange
state_at states k = slice_index_or states k no_state

-- limits above the whole numbers before an operation that is not the first, at every pixel of every frame
abbrev pub limits_before : List Op → ℕ → ℕ → ℕ
limits_before ops k = slice_index (limits_in (state_at (states_of ops) (k - 1)) (bits_at (stage_before ops k)))

-- ---- forms
-- the denominator of value v
abbrev pub denominator : Form → ℕ → ℕ
denominator form v = unsigned_abs (extent_at form v).denominator

-- the numerators of all 64 pixels lie in their bounds
abbrev pub AreWithin : {N : Type 0} → (N → ℤ) → List N → Form → Type 0
AreWithin {N} value numbers form = (v i : ℕ) (d : N) → v < form.count → i < 64
    → ((extent_at form v).least ≤ℤ value (slice_index_or numbers (64 * v + i) d))
    × (value (slice_index_or numbers (64 * v + i) d) ≤ℤ (extent_at form v).greatest)

-- those of the first n pixels stand for the fractions, over the denominators
abbrev pub HoldsFractions : {N : Type 0} → (N → ℤ) → List N → Form → ℕ → (ℕ → Values) → Type 0
HoldsFractions {N} value numbers form n given = (v i : ℕ) (d : N) → v < form.count → i < n
    → Stands (fraction (given i) v) (value (slice_index_or numbers (64 * v + i) d)) (denominator form v)

-- A block whose first n pixels have the given values, as far as the form has them.
pub record IsState {W N : Type 0} (digits : W → ℕ) (value : N → ℤ) (stage : Stage) (form : Form) (values : List W) (numbers : List N)
    (n : ℕ) (given : ℕ → Values) : Type 0 where
  pub whole : is_whole stage ≡ true → Holds digits values form.count n (λ v i. number (given i) v)
  pub exact : is_rational stage ≡ true → HoldsFractions value numbers form n given

-- all 64 pixels of a block are in bounds
pub record IsBounded {W N : Type 0} (digits : W → ℕ) (value : N → ℤ) (stage : Stage) (form : Form) (values : List W)
    (numbers : List N) : Type 0 where
  pub small : is_whole stage ≡ true → AreBelow digits values form.count (2 ^ bits_at stage)
  pub bound : is_rational stage ≡ true → AreWithin value numbers form

-- Each of all 64 pixels of a block has the values that some frame of bytes gives before operation k.
pub record AreRuns {W N : Type 0} (digits : W → ℕ) (value : N → ℤ) (ops : List Op) (k : ℕ) (position : PixelPosition) (form : Form)
    (values : List W) (numbers : List N) : Type 0 where
  pub frames : ℕ → List ℕ
  pub bytes : (i : ℕ) → All (λ byte. byte < 256) (frames i)
  pub state : IsState digits value (stage_before ops k) form values numbers 64 (λ i. values_before ops (frames i) position k i)

-- Where the first n pixels of a block have some values, they have afterwards what the operation makes of them.
abbrev pub Performs : {W N : Type 0} → (W → ℕ) → (N → ℤ) → Stage → Form → Op → Form → PixelPosition → List W → List N → List W → List N
    → Type 0
Performs digits value stage before op after position old_values old_numbers values numbers = (frame : List ℕ) (n : ℕ) (given : ℕ → Values)
    → n ≤ 64
    → ((i : ℕ) → are_fractions (given i) ≡ is_rational stage)
    → IsState digits value stage before old_values old_numbers n given
    → IsState digits value (stage_after stage op) after values numbers n (λ i. apply frame (pixel_at position i) stage op (given i))

-- value u of one form becomes value v of another
pub record IsMoved (before : Form) (u : ℕ) (after : Form) (v : ℕ) : Type 0 where
  pub there : u < before.count
  pub same : extent_at after v ≡ extent_at before u

-- a whole number below a limit as a numerator over 1
pub record IsWidened (width : Width) (limit : ℕ) (extent : Extent) : Type 0 where
  pub one : extent.denominator ≡ pos 1
  pub bounds : (m : ℕ) → m < limit → (extent.least ≤ℤ pos m) × (pos m ≤ℤ extent.greatest)
  pub fits : (m : ℕ) → m < limit → FitsSigned width (pos m)

-- entry j of a row of integers
abbrev pub factor : List ℤ → ℕ → ℤ
factor factors j = slice_index_or factors j (pos 0)

abbrev pub factors_at : Form → ℕ → List ℤ
factors_at form v = slice_index_or form.factors v []

-- value j is there, and is always 0
abbrev pub IsZero : Form → ℕ → Type 0
IsZero before j = (j < before.count) × ((extent_at before j).least ≡ pos 0) × ((extent_at before j).greatest ≡ pos 0)

-- k over the new denominator is the coefficient times a number over the old one; or k is 0 and so is the coefficient or the value
abbrev pub IsTerm : Form → ℚ → ℤ → ℕ → ℕ → Type 0
IsTerm before coefficient k d j =
    ((j < before.count) × (k *ℤ pos (denominator before j * coefficient.denominator) ≡ coefficient.numerator *ℤ pos d))
    ⊎ ((k ≡ pos 0) × ((coefficient.numerator ≡ pos 0) ⊎ IsZero before j))

-- the numbers lie in the bounds of a form
abbrev pub IsInside : Form → (ℕ → ℤ) → Type 0
IsInside before numbers = (j : ℕ) → j < before.count
    → ((extent_at before j).least ≤ℤ numbers j) × (numbers j ≤ℤ (extent_at before j).greatest)

-- a row of factors is a row of coefficients, over the denominators, and all that it works out fits
pub record IsRow (width : Width) (before : Form) (coefficients : List ℚ) (factors : List ℤ) (extent : Extent) : Type 0 where
  pub positive : 0 < unsigned_abs extent.denominator
  pub terms : (j : ℕ) → j < 4 → IsTerm before (fraction_in coefficients j) (factor factors j) (unsigned_abs extent.denominator) j
  pub constant : factor factors 4 *ℤ pos (fraction_in coefficients 4).denominator ≡ (fraction_in coefficients 4).numerator
      *ℤ pos (unsigned_abs extent.denominator)
  pub entries : (j : ℕ) → j < 5 → FitsSigned width (factor factors j)
  pub fits : (numbers : ℕ → ℤ) → IsInside before numbers → RowFits width factors numbers
  pub inside : (numbers : ℕ → ℤ) → IsInside before numbers
      → (extent.least ≤ℤ row_sum factors numbers 4) × (row_sum factors numbers 4 ≤ℤ extent.greatest)

abbrev pub no_divisor : Divisor
no_divisor = Short 0 (record { d = 0; bound = 0; factor = 0; shift = 0 })

abbrev pub divisor_at : Form → ℕ → Divisor
divisor_at form v = slice_index_or form.divisors v no_divisor

-- the floors of value v are quotients by its denominator
pub record IsNarrowed (width : Width) (count : ℕ) (before after : Form) (v : ℕ) : Type 0 where
  pub there : v < before.count
  pub divided : IsDivided width count (extent_at before v) (divisor_at after v)

-- the numbers of an operation that makes each value from that value alone
abbrev pub AreMade : Width → Form → Op → Form → Type 0
AreMade width before op after = (v : ℕ) → v < after.count
    → (v < before.count) × IsMade width op v (extent_at before v) (factor (factors_at after v) 0) (factor (factors_at after v) 1)
    (extent_at after v)

-- ---- Convert
-- whole numbers over 1
abbrev pub AreWidened : Stage → Form → Form → Type 0
AreWidened stage before after =
    (is_whole stage ≡ true) × ((v : ℕ) → v < after.count → (v < before.count) × ((extent_at after v).denominator ≡ pos 1))

-- floors of fractions, as whole numbers of a type that the storage holds
abbrev pub AreNarrowed : ℕ → Width → Stage → Form → PixType → Form → Type 0
AreNarrowed count width stage before to after =
    (is_rational stage ≡ true) × (2 ^ type_bits to ≤ 2 ^ count)
    × ((v : ℕ) → v < after.count → IsNarrowed width (type_bits to) before after v)

-- fractions that stay what they are
abbrev pub AreKept : Form → Form → Type 0
AreKept before after = (v : ℕ) → v < after.count → IsMoved before v after v

-- the forms of values that get another type, by what they are before
pub record IsConverted (bits : ℕ) (width : Width) (stage : Stage) (to : PixType) (before after : Form) : Type 0 where
  pub there : after.count ≤ before.count
  pub widened : is_whole stage ≡ true → is_whole_type to ≡ false → AreWidened stage before after
  pub narrowed : is_rational stage ≡ true → is_whole_type to ≡ true → AreNarrowed bits width stage before to after
  pub same : is_rational stage ≡ true → is_whole_type to ≡ false → AreKept before after

abbrev pub makes_fractions : Op → Bool
makes_fractions (Read elem planes palette) = false
makes_fractions (Write elem planes) = false
makes_fractions SwapBytes = false
makes_fractions (Unpack widths) = false
makes_fractions (Pack widths) = false
makes_fractions (Clear entries) = false
makes_fractions (LeftShift n) = false
makes_fractions (RightShift n) = false
makes_fractions (Swizzle from) = false
makes_fractions (Convert to expand) = not (is_whole_type to)
makes_fractions (Dither count) = false
makes_fractions (Linear rows) = false
makes_fractions (Scale by) = false
makes_fractions (Min limits) = false
makes_fractions (Max limits) = false

-- where whole numbers become fractions, all those below their limits lie in the new extents, in a width that holds them
abbrev pub AreHeld : Width → (ℕ → ℕ) → Stage → Op → Form → Type 0
AreHeld width limits stage op after = is_whole stage ≡ true → makes_fractions op ≡ true → (v : ℕ) → v < after.count
    → IsWidened width (limits v) (extent_at after v)

-- a whole number that lies in an extent, in a width that holds it
pub record IsHeld (width : Width) (extent : Extent) (m : ℕ) : Type 0 where
  pub bounds : (extent.least ≤ℤ pos m) × (pos m ≤ℤ extent.greatest)
  pub fits : FitsSigned width (pos m)

-- where whole numbers become fractions, those of all 64 pixels are such ones
abbrev pub AreReady : {W : Type 0} → (W → ℕ) → Width → Stage → Op → Form → List W → Type 0
AreReady {W} digits width stage op after values = is_whole stage ≡ true → makes_fractions op ≡ true
    → (v i : ℕ) (d : W) → v < after.count → i < 64 → IsHeld width (extent_at after v) (digits (slice_index_or values (64 * v + i) d))

-- ---- Clear
-- one fraction alone as an extent, and its numerator
pub record IsConstant (width : Width) (x : ℚ) (numerator : ℤ) (extent : Extent) : Type 0 where
  pub denominator : extent.denominator ≡ pos x.denominator
  pub least : extent.least ≡ x.numerator
  pub greatest : extent.greatest ≡ x.numerator
  pub same : numerator ≡ x.numerator
  pub fits : FitsSigned width x.numerator

-- the numerator and the extent of value v: it stays, or is the entry
abbrev pub IsCleared : Width → Bool → Form → ℕ → Option ℚ → ℤ → Extent → Type 0
IsCleared width rational before v None numerator extent = (v < before.count) × (extent ≡ extent_at before v)
IsCleared width rational before v (Some x) numerator extent = rational ≡ true → IsConstant width x numerator extent

-- the numerator of an entry, where one is given, else that of the value
abbrev pub cleared_numerator : Option ℚ → ℤ → ℤ → ℤ
cleared_numerator None given value = value
cleared_numerator (Some x) given value = given

-- ---- an operation
-- The numbers of a step are those of its operation. An operation on whole numbers needs nothing but the values that it takes.
abbrev pub IsStep : ℕ → Width → Stage → Form → Op → Form → Type 0
IsStep bits width stage before (Read elem planes palette) after = ⊥
IsStep bits width stage before (Write elem planes) after = ⊥
IsStep bits width stage before SwapBytes after = after.count ≤ before.count
IsStep bits width stage before (Unpack widths) after = 0 < before.count
IsStep bits width stage before (Pack widths) after = (j : ℕ) → j < 4 → (j < before.count) ⊎ (slice_index widths j ≡ 0)
IsStep bits width stage before (Clear entries) after = (v : ℕ) → v < after.count
    → IsCleared width (is_rational stage) before v (entry entries v) (factor (factors_at after v) 0) (extent_at after v)
IsStep bits width stage before (LeftShift n) after = after.count ≤ before.count
IsStep bits width stage before (RightShift n) after = after.count ≤ before.count
IsStep bits width stage before (Swizzle from) after = (v : ℕ) → v < after.count → IsMoved before (slice_index from v) after v
IsStep bits width stage before (Convert to expand) after = IsConverted bits width stage to before after
IsStep bits width stage before (Dither k) after = AreMade width before (Dither k) after
IsStep bits width stage before (Linear rows) after = (v : ℕ) → v < after.count
    → IsRow width before (row_of rows v) (factors_at after v) (extent_at after v)
IsStep bits width stage before (Scale by) after = AreMade width before (Scale by) after
IsStep bits width stage before (Min limits) after = AreMade width before (Min limits) after
IsStep bits width stage before (Max limits) after = AreMade width before (Max limits) after

abbrev pub last_op : List Op → Op
last_op ops = op_at ops (length ops - 1)

-- the numbers of a step are those of its operation, for whole numbers below some limits
pub record IsStepBelow (bits : ℕ) (width : Width) (limits : ℕ → ℕ) (stage : Stage) (before : Form) (op : Op) (after : Form) : Type 0 where
  pub step : IsStep bits width stage before op after
  pub held : AreHeld width limits stage op after

-- the steps before n, from the second operation on
abbrev pub AreSteps : List Op → List Form → ℕ → Width → ℕ → Type 0
AreSteps ops forms bits width n = (k : ℕ) → 0 < k → k < n
    → IsStepBelow bits width (limits_before ops k) (stage_before ops k) (form_at forms (k - 1)) (op_at ops k) (form_at forms k)

abbrev pub AreFew : List Form → Type 0
AreFew forms = (k : ℕ) → (form_at forms k).count ≤ 4

-- each type of a list has at most so many bits
abbrev pub AreStored : List Op → ℕ → Type 0
AreStored ops bits = (k : ℕ) → 2 ^ bits_at (stage_before ops k) ≤ 2 ^ bits

-- the numbers of all steps are those of a whole list, in blocks whose whole numbers have so many bits and whose numerators have a width
pub record IsKernel (ops : List Op) (forms : List Form) (bits : ℕ) (width : Width) : Type 0 where
  pub typed : are_typed Start ops ≡ true
  pub whole : ends_with_write ops ≡ true
  pub sizes : length forms ≡ length ops
  pub wide : AreStored ops bits
  pub few : AreFew forms
  pub steps : AreSteps ops forms bits width (length ops - 1)
  pub last : sum (planes_of (last_op ops)) ≤ (form_at forms (length ops - 2)).count

-- the bits of the whole numbers of a block, and the width of its numerators
abbrev pub bits_of : Storage → ℕ
bits_of Bytes = 8
bits_of Words = 16
bits_of DoubleWords = 32

abbrev pub width_of : NumberWidth → Width
width_of Bits32 = w32
width_of Bits64 = w64
width_of Bits128 = w128

-- each factor is 0, or its number lies in the bounds of a form
abbrev pub HasNumbers : Form → List ℤ → (ℕ → ℤ) → Type 0
HasNumbers before factors numbers = (j : ℕ) → j < 4
    → (factor factors j ≡ pos 0) ⊎ (((extent_at before j).least ≤ℤ numbers j) × (numbers j ≤ℤ (extent_at before j).greatest))

-- all that a row works out for numbers in the bounds of a form fits, and its sum lies between two numbers
pub record IsRange (width : Width) (before : Form) (factors : List ℤ) (lower higher : ℤ) : Type 0 where
  pub fits : (numbers : ℕ → ℤ) → HasNumbers before factors numbers → RowFits width factors numbers
  pub inside : (numbers : ℕ → ℤ) → HasNumbers before factors numbers
      → (lower ≤ℤ row_sum factors numbers 4) × (row_sum factors numbers 4 ≤ℤ higher)
