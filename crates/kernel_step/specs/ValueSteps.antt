-- When the numbers of a form are those of an operation on fractions that makes each value from that value alone.
use Rattle.std.specs.Prelude.{◌≡◌, ◌⊎◌, ℕ, ◌+◌, ◌-◌, ◌*◌, ◌/◌, ◌^◌, ◌<◌, Bool, true, false, ◌%◌, List, slice_index, slice_index_or, ℤ, pos}
use Rattle.std.specs.Prelude.{◌*ℤ◌, ◌+ℤ◌, ◌≤ℤ◌, ◌<ℤ◌, ◌≤◌, Option, Some, None, unsigned_abs, FitsSigned}
use Rattle.std.specs.Int.{Width, int_div_euclid}
use Rattle.frac_math.specs.Fraction.{ℚ, nat, ◌+ℚ◌, ◌*ℚ◌}
use Rattle.frac_math.specs.Dither.{dither_at}
use Rattle.frac_math.specs.Standing.{Stands}
use Rattle.op_list.specs.declared.op.Op.{Op}
use Rattle.op_list.specs.declared.op.Op.TheVariants.{Read, Write, SwapBytes, Unpack, Pack, Clear, LeftShift, RightShift, Swizzle}
use Rattle.op_list.specs.declared.op.Op.TheVariants.{Convert, Dither, Linear, Scale, Min, Max}
use Rattle.op_list.specs.declared.position.PixelPosition.{PixelPosition}
use Rattle.op_list.specs.Apply.{at_most, at_least}
use Rattle.op_list.specs.Values.{entry}
use Rattle.op_list.specs.Whole.{modulo}
use Rattle.kernel_step.specs.declared.form.Extent.{Extent}
use Rattle.kernel_step.specs.declared.form.Divisor.{Divisor}
use Rattle.kernel_step.specs.declared.form.Divisor.TheVariants.{Short, Long, Plain}

-- a number lies in the bounds of an extent
abbrev pub IsIn : Extent → ℤ → Type 0
IsIn extent n = (extent.least ≤ℤ n) × (n ≤ℤ extent.greatest)

-- k times a number over the old denominator is `by` times its fraction over the new one
pub record IsFactor (old : Extent) (by : ℚ) (k : ℤ) (new : Extent) : Type 0 where
  pub positive : 0 < unsigned_abs new.denominator
  pub term : k *ℤ pos (unsigned_abs old.denominator * by.denominator) ≡ by.numerator *ℤ pos (unsigned_abs new.denominator)

-- the numbers of an extent times k
pub record IsScaled (width : Width) (old : Extent) (by : ℚ) (k : ℤ) (new : Extent) : Type 0 where
  pub over : IsFactor old by k new
  pub fits : FitsSigned width k
  pub products : (n : ℤ) → IsIn old n → FitsSigned width (k *ℤ n)
  pub inside : (n : ℤ) → IsIn old n → IsIn new (k *ℤ n)

-- the factor 0 in place of another one, for a value that is always 0
pub record IsNothing (old : Extent) (by : ℚ) (k : ℤ) (new : Extent) : Type 0 where
  pub least : old.least ≡ pos 0
  pub greatest : old.greatest ≡ pos 0
  pub zero : k ≡ pos 0
  pub other : ℤ
  pub over : IsFactor old by other new
  pub there : IsIn new (pos 0)

abbrev pub IsScaling : Width → Extent → ℚ → ℤ → Extent → Type 0
IsScaling width old by k new = IsScaled width old by k new ⊎ IsNothing old by k new

-- a limit is a number over the denominator of an extent
abbrev pub IsOver : Extent → ℚ → ℤ → Type 0
IsOver extent limit n = n *ℤ pos limit.denominator ≡ limit.numerator *ℤ pos (unsigned_abs extent.denominator)

-- the numbers of an extent times k, but at most a limit: it is the greatest number, or none is above it
pub record IsMinimum (width : Width) (old : Extent) (limit : ℚ) (k : ℤ) (new : Extent) : Type 0 where
  pub over : IsFactor old (nat 1) k new
  pub fits : FitsSigned width k
  pub products : (n : ℤ) → IsIn old n → FitsSigned width (k *ℤ n)
  pub above : (n : ℤ) → IsIn old n → new.least ≤ℤ (k *ℤ n)
  pub ordered : new.least ≤ℤ new.greatest
  pub least_fits : FitsSigned width new.least
  pub greatest_fits : FitsSigned width new.greatest
  pub cut : IsOver new limit new.greatest ⊎ ((n : ℤ) → IsIn old n
      → ((k *ℤ n) ≤ℤ new.greatest) × ((k *ℤ n *ℤ pos limit.denominator) ≤ℤ (limit.numerator *ℤ pos (unsigned_abs new.denominator))))

-- the numbers of an extent times k, but at least a limit: it is the least number, or none is below it
pub record IsMaximum (width : Width) (old : Extent) (limit : ℚ) (k : ℤ) (new : Extent) : Type 0 where
  pub over : IsFactor old (nat 1) k new
  pub fits : FitsSigned width k
  pub products : (n : ℤ) → IsIn old n → FitsSigned width (k *ℤ n)
  pub below : (n : ℤ) → IsIn old n → (k *ℤ n) ≤ℤ new.greatest
  pub ordered : new.least ≤ℤ new.greatest
  pub least_fits : FitsSigned width new.least
  pub greatest_fits : FitsSigned width new.greatest
  pub cut : IsOver new limit new.least ⊎ ((n : ℤ) → IsIn old n
      → (new.least ≤ℤ (k *ℤ n)) × ((limit.numerator *ℤ pos (unsigned_abs new.denominator)) ≤ℤ (k *ℤ n *ℤ pos limit.denominator)))

-- the numbers of an extent times k, with an odd number of units: 2 * 4 ^ count of them are 1
pub record IsDithered (width : Width) (old : Extent) (count : ℕ) (k unit : ℤ) (new : Extent) : Type 0 where
  pub over : IsFactor old (nat 1) k new
  pub fits : FitsSigned width k
  pub products : (n : ℤ) → IsIn old n → FitsSigned width (k *ℤ n)
  pub unit_is : unit *ℤ pos (2 * 4 ^ count) ≡ pos (unsigned_abs new.denominator)
  pub unit_fits : FitsSigned width unit
  pub addends : (m : ℕ) → m < 2 * 4 ^ count → FitsSigned width (unit *ℤ pos m)
  pub sums : (m : ℕ) (n : ℤ) → 0 < m → m < 2 * 4 ^ count → IsIn old n → FitsSigned width (k *ℤ n +ℤ unit *ℤ pos m)
  pub inside : (m : ℕ) (n : ℤ) → 0 < m → m < 2 * 4 ^ count → IsIn old n → IsIn new (k *ℤ n +ℤ unit *ℤ pos m)

-- by whether an entry is given
abbrev pub IsAtMost : Width → Extent → Option ℚ → ℤ → Extent → Type 0
IsAtMost width old None k new = IsScaled width old (nat 1) k new
IsAtMost width old (Some limit) k new = IsMinimum width old limit k new

abbrev pub IsAtLeast : Width → Extent → Option ℚ → ℤ → Extent → Type 0
IsAtLeast width old None k new = IsScaled width old (nat 1) k new
IsAtLeast width old (Some limit) k new = IsMaximum width old limit k new

-- ---- an operation
-- each new value is made from the old one alone
abbrev pub is_by_value : Op → Bool
is_by_value (Scale by) = true
is_by_value (Min limits) = true
is_by_value (Max limits) = true
is_by_value (Dither count) = true
is_by_value (Read elem planes palette) = false
is_by_value (Write elem planes) = false
is_by_value SwapBytes = false
is_by_value (Unpack widths) = false
is_by_value (Pack widths) = false
is_by_value (Clear entries) = false
is_by_value (LeftShift n) = false
is_by_value (RightShift n) = false
is_by_value (Swizzle from) = false
is_by_value (Convert to expand) = false
is_by_value (Linear rows) = false

-- what it makes of the fraction that value v is
abbrev pub makes : Op → ℕ → PixelPosition → ℚ → ℚ
makes (Scale by) v position x = x *ℚ by
makes (Min limits) v position x = at_most (entry limits v) x
makes (Max limits) v position x = at_least (entry limits v) x
makes (Dither count) v position x = x +ℚ dither_at count position.x position.y
makes (Read elem planes palette) v position x = x
makes (Write elem planes) v position x = x
makes SwapBytes v position x = x
makes (Unpack widths) v position x = x
makes (Pack widths) v position x = x
makes (Clear entries) v position x = x
makes (LeftShift n) v position x = x
makes (RightShift n) v position x = x
makes (Swizzle from) v position x = x
makes (Convert to expand) v position x = x
makes (Linear rows) v position x = x

-- the factors of value v, and its new extent, are those of the operation
abbrev pub IsMade : Width → Op → ℕ → Extent → ℤ → ℤ → Extent → Type 0
IsMade width (Scale by) v old k unit new = IsScaling width old by k new
IsMade width (Min limits) v old k unit new = IsAtMost width old (entry limits v) k new
IsMade width (Max limits) v old k unit new = IsAtLeast width old (entry limits v) k new
IsMade width (Dither count) v old k unit new = IsDithered width old count k unit new
IsMade width (Read elem planes palette) v old k unit new = ⊥
IsMade width (Write elem planes) v old k unit new = ⊥
IsMade width SwapBytes v old k unit new = ⊥
IsMade width (Unpack widths) v old k unit new = ⊥
IsMade width (Pack widths) v old k unit new = ⊥
IsMade width (Clear entries) v old k unit new = ⊥
IsMade width (LeftShift n) v old k unit new = ⊥
IsMade width (RightShift n) v old k unit new = ⊥
IsMade width (Swizzle from) v old k unit new = ⊥
IsMade width (Convert to expand) v old k unit new = ⊥
IsMade width (Linear rows) v old k unit new = ⊥

-- Value v of the 64 pixels of a block: its numbers are in the new bounds, and stand for what is made of each fraction that the old ones
-- stood for.
pub record MakesValue {N : Type 0} (value : N → ℤ) (numbers made : List N) (v : ℕ) (old new : Extent) (fraction_at : ℕ → ℚ → ℚ) : Type 0
  where
    pub inside : (i : ℕ) (d : N) → i < 64 → IsIn new (value (slice_index_or made (64 * v + i) d))
    pub exact : (i : ℕ) (d : N) (x : ℚ) → i < 64 → Stands x (value (slice_index_or numbers (64 * v + i) d)) (unsigned_abs old.denominator)
        → Stands (fraction_at i x) (value (slice_index_or made (64 * v + i) d)) (unsigned_abs new.denominator)

-- value v of all 64 pixels is in the bounds of an extent
abbrev pub AreIn : {N : Type 0} → (N → ℤ) → List N → ℕ → Extent → Type 0
AreIn {N} value numbers v extent = (i : ℕ) (d : N) → i < 64 → IsIn extent (value (slice_index_or numbers (64 * v + i) d))

-- how many parts of 2 * 4 ^ count are the dither of each pixel of a row, from column x on: the numbers repeat after sixteen pixels
abbrev pub NumbersDither : ℕ → ℕ → ℕ → List ℕ → Type 0
NumbersDither count x y numbers = (i : ℕ) → Stands (dither_at count (x + i) y) (pos (slice_index numbers (i % 16))) (2 * 4 ^ count)
    × (0 < slice_index numbers (i % 16)) × (slice_index numbers (i % 16) < 2 * 4 ^ count)

-- ---- floors
-- n * factor / 2 ^ shift is n / d, for each n up to the bound
pub record IsReciprocal (d bound factor shift : ℕ) : Type 0 where
  pub some : 0 < d
  pub above : 2 ^ shift ≤ factor * d
  pub close : bound * (factor * d - 2 ^ shift) < 2 ^ shift

-- the numbers of an extent are divided by a multiplication, and their quotients have so many bits
pub record IsQuotient (count : ℕ) (old : Extent) (d bound factor shift : ℕ) : Type 0 where
  pub reciprocal : IsReciprocal d bound factor shift
  pub same : d ≡ unsigned_abs old.denominator
  pub least : pos 0 ≤ℤ old.least
  pub greatest : old.greatest ≤ℤ pos bound
  pub fits : bound / d < 2 ^ count

-- The same after a division by a power of two that divides the denominator: such a quotient loses the lowest bits of a number alone.
pub record IsEvenQuotient (count : ℕ) (old : Extent) (zeros d bound factor shift : ℕ) : Type 0 where
  pub reciprocal : IsReciprocal d bound factor shift
  pub same : 2 ^ zeros * d ≡ unsigned_abs old.denominator
  pub least : pos 0 ≤ℤ old.least
  pub greatest : unsigned_abs old.greatest / 2 ^ zeros ≤ bound
  pub fits : bound / d < 2 ^ count

-- the numbers of an extent are divided by its denominator
abbrev pub IsDivided : Width → ℕ → Extent → Divisor → Type 0
IsDivided width count old (Short zeros by) = (by.shift < 64) × (zeros < 32) × IsEvenQuotient count old zeros by.d by.bound by.factor by.shift
IsDivided width count old (Long by) = (by.shift < 128) × IsQuotient count old by.d by.bound by.factor by.shift
IsDivided width count old Plain = (pos 0 <ℤ old.denominator) × FitsSigned width old.denominator

-- the whole numbers at value v are the floors of its numbers over a denominator, modulo 2 ^ count
abbrev pub AreFloors : {W N : Type 0} → (W → ℕ) → (N → ℤ) → ℕ → List N → ℕ → ℕ → List W → Type 0
AreFloors {W} {N} digits value count numbers v d values = (i : ℕ) (x : W) (e : N) → i < 64
    → digits (slice_index_or values (64 * v + i) x) ≡ modulo (int_div_euclid (value (slice_index_or numbers (64 * v + i) e)) (pos d))
    (2 ^ count)
