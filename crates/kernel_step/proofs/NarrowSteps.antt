-- Fractions become whole numbers: what a block holds, and its bounds.
use Rattle.std.proofs.Common.{◌≡◌, ℕ, ◌+◌, ◌*◌, ◌/◌, ◌%◌, ◌^◌, ◌<◌, ◌≤◌, Bool, true, List, ℤ, pos, negsuc, length, slice_index_or}
use Rattle.std.proofs.Common.{sym, ap, ◌∙◌, arith, subst}
use Rattle.std.specs.Prelude.{◌≤ℤ◌, unsigned_abs}
use Rattle.std.specs.Int.{Width, int_div_euclid}
use Rattle.std.proofs.Math.Nat.{mod-eq_of_lt, div-lt_iff_lt-mul, div-div-eq-div-mul, one-le-pow}
use Rattle.std.proofs.lemmas.Int.{ints}
use Rattle.frac_math.specs.Fraction.{floor}
use Rattle.frac_math.specs.Standing.{Stands}
use Rattle.frac_math.proofs.Floor.{floor_stands}
use Rattle.op_list.specs.declared.types.PixType.{PixType}
use Rattle.op_list.specs.declared.types.PixType.TheVariants.{U8, U16, U32, Rat}
use Rattle.op_list.specs.declared.types.Stage.{Stage}
use Rattle.op_list.specs.declared.types.Stage.TheVariants.{Typed}
use Rattle.op_list.specs.declared.op.Op.TheVariants.{Convert}
use Rattle.op_list.specs.declared.position.PixelPosition.{PixelPosition}
use Rattle.op_list.specs.declared.values.Values.{Values}
use Rattle.op_list.specs.declared.values.Values.TheVariants.{Numbers, Fractions}
use Rattle.op_list.specs.Types.{bits, is_whole_type, is_rational}
use Rattle.op_list.specs.Typing.{stage_after}
use Rattle.op_list.specs.Values.{number, fraction, fraction_in, are_fractions}
use Rattle.op_list.specs.Whole.{modulo}
use Rattle.op_list.specs.Apply.{apply, converted}
use Rattle.kernel_step.specs.declared.form.Form.{Form}
use Rattle.kernel_step.specs.Forms.{denominator, AreNarrowed, IsBounded, Performs}
use Rattle.kernel_step.specs.ValueSteps.{AreFloors, AreIn, IsEvenQuotient, IsQuotient}
use Rattle.kernel_step.specs.declared.form.Extent.{Extent}
use Rattle.kernel_step.proofs.Fours.{four_at}
use Rattle.kernel_step.proofs.Kernels.{some_element}

-- ---- quotients
pub abs_below : (z : ℤ) (n : ℕ) → pos 0 ≤ℤ z → z ≤ℤ pos n → unsigned_abs z ≤ n
abs_below (pos m) n low high = omega (arith, ints)
abs_below (negsuc m) n low high = omega (arith, ints)

pub quotient_below : (n b d m : ℕ) → 0 < d → n ≤ b → b / d < m → n / d < m
quotient_below n b d m some small below =
    let most : b < m * d = (div-lt_iff_lt-mul some).0 below in (div-lt_iff_lt-mul some).1 (omega (arith, most, small))

-- the floor of a number that is not negative
floor_small : (n : ℤ) (d m : ℕ) → pos 0 ≤ℤ n → unsigned_abs n / d < m → modulo (int_div_euclid n (pos d)) m ≡ unsigned_abs n / d
floor_small (pos n) d m low small = mod-eq_of_lt small
floor_small (negsuc n) d m low small = absurd (omega (arith, ints))

-- a number without its lowest bits
pub part_below : (n most : ℤ) (zeros bound : ℕ) → pos 0 ≤ℤ n → n ≤ℤ most → unsigned_abs most / 2 ^ zeros ≤ bound
    → unsigned_abs n / 2 ^ zeros ≤ bound
part_below n most zeros bound low high below =
    let small : unsigned_abs n ≤ unsigned_abs most = abs_grows n most low high in
    let less = quotient_below (unsigned_abs n) (unsigned_abs most) (2 ^ zeros) (bound + 1) (one-le-pow zeros 2 (omega arith)) small (omega (arith, below)) in
    omega (arith, less)
  where
    abs_grows : (n most : ℤ) → pos 0 ≤ℤ n → n ≤ℤ most → unsigned_abs n ≤ unsigned_abs most
    abs_grows (pos m) (pos k) low high = omega (arith, ints)
    abs_grows (pos m) (negsuc k) low high = omega (arith, ints)
    abs_grows (negsuc m) k low high = omega (arith, ints)

-- quotients of numbers without their lowest bits are floors
pub even_quotients_are_floors : {W N : Type 0} (digits : W → ℕ) (value : N → ℤ) (count : ℕ) (numbers : List N) (v : ℕ) (old : Extent)
    (zeros d bound factor shift : ℕ) (values : List W)
    → IsEvenQuotient count old zeros d bound factor shift → AreIn value numbers v old
    → ((i : ℕ) (x : W) (e : N) → i < 64
    → digits (slice_index_or values (64 * v + i) x) ≡ unsigned_abs (value (slice_index_or numbers (64 * v + i) e)) / 2 ^ zeros / d)
    → AreFloors digits value count numbers v (unsigned_abs old.denominator) values
even_quotients_are_floors {W} {N} digits value count numbers v old zeros d bound factor shift values is within set i x e below =
    let n = value (slice_index_or numbers (64 * v + i) e) in
    let range = within i e below in
    let low : pos 0 ≤ℤ n = omega (arith, ints, is.least, range.0) in
    let part : unsigned_abs n / 2 ^ zeros ≤ bound = part_below n old.greatest zeros bound low range.1 is.greatest in
    let once : unsigned_abs n / 2 ^ zeros / d ≡ unsigned_abs n / (2 ^ zeros * d) = div-div-eq-div-mul (unsigned_abs n) (2 ^ zeros) d in
    let small : unsigned_abs n / 2 ^ zeros / d < 2 ^ count =
    quotient_below (unsigned_abs n / 2 ^ zeros) bound d (2 ^ count) is.reciprocal.some part is.fits in
    set i x e below ∙ once ∙ sym (floor_small n (2 ^ zeros * d) (2 ^ count) low (subst (λ t. t < 2 ^ count) once small))
    ∙ ap (λ t. modulo (int_div_euclid n (pos t)) (2 ^ count)) is.same

-- quotients by a multiplication are floors
pub quotients_are_floors : {W N : Type 0} (digits : W → ℕ) (value : N → ℤ) (count : ℕ) (numbers : List N) (v : ℕ) (old : Extent)
    (d bound factor shift : ℕ) (values : List W)
    → IsQuotient count old d bound factor shift → AreIn value numbers v old
    → ((i : ℕ) (x : W) (e : N) → i < 64
    → digits (slice_index_or values (64 * v + i) x) ≡ unsigned_abs (value (slice_index_or numbers (64 * v + i) e)) / d)
    → AreFloors digits value count numbers v (unsigned_abs old.denominator) values
quotients_are_floors {W} {N} digits value count numbers v old d bound factor shift values is within set i x e below =
    let n = value (slice_index_or numbers (64 * v + i) e) in
    let range = within i e below in
    let low : pos 0 ≤ℤ n = omega (arith, ints, is.least, range.0) in
    let high : n ≤ℤ pos bound = omega (arith, ints, is.greatest, range.1) in
    let small : unsigned_abs n / d < 2 ^ count = quotient_below (unsigned_abs n) bound d (2 ^ count) is.reciprocal.some
    (abs_below n bound low high) is.fits in
    set i x e below ∙ sym (floor_small n d (2 ^ count) low small) ∙ ap (λ t. modulo (int_div_euclid n (pos t)) (2 ^ count)) is.same

-- the lowest bits of a floor
pub lowest_of : (z : ℤ) (n : ℕ) (to : PixType) → is_whole_type to ≡ true → n ≡ modulo z (2 ^ 32) → n % 2 ^ bits to ≡ modulo z (2 ^ bits to)
lowest_of (pos m) n U8 whole is = omega (arith, is)
lowest_of (pos m) n U16 whole is = omega (arith, is)
lowest_of (pos m) n U32 whole is = omega (arith, is)
lowest_of (pos m) n Rat whole is = cc
lowest_of (negsuc m) n U8 whole is = omega (arith, ints, is)
lowest_of (negsuc m) n U16 whole is = omega (arith, ints, is)
lowest_of (negsuc m) n U32 whole is = omega (arith, ints, is)
lowest_of (negsuc m) n Rat whole is = cc

modulo_below : (z : ℤ) (to : PixType) → is_whole_type to ≡ true → modulo z (2 ^ bits to) < 2 ^ bits to
modulo_below (pos m) U8 whole = omega arith
modulo_below (pos m) U16 whole = omega arith
modulo_below (pos m) U32 whole = omega arith
modulo_below (pos m) Rat whole = cc
modulo_below (negsuc m) U8 whole = omega (arith, ints)
modulo_below (negsuc m) U16 whole = omega (arith, ints)
modulo_below (negsuc m) U32 whole = omega (arith, ints)
modulo_below (negsuc m) Rat whole = cc

narrowed_number : (to : PixType) (expand : Bool) (values : Values) (v : ℕ) → is_whole_type to ≡ true → v < 4 → are_fractions values ≡ true
    → number (converted to expand values) v ≡ modulo (floor (fraction values v)) (2 ^ bits to)
narrowed_number U8 expand (Fractions values) v whole small kind = four_at (λ i. modulo (floor (fraction_in values i)) (2 ^ 8)) v 0 small
narrowed_number U16 expand (Fractions values) v whole small kind = four_at (λ i. modulo (floor (fraction_in values i)) (2 ^ 16)) v 0 small
narrowed_number U32 expand (Fractions values) v whole small kind = four_at (λ i. modulo (floor (fraction_in values i)) (2 ^ 32)) v 0 small
narrowed_number Rat expand (Fractions values) v whole small kind = cc
narrowed_number U8 expand (Numbers values) v whole small kind = cc
narrowed_number U16 expand (Numbers values) v whole small kind = cc
narrowed_number U32 expand (Numbers values) v whole small kind = cc
narrowed_number Rat expand (Numbers values) v whole small kind = cc

-- the floors of all values below a count
abbrev pub Floors : {W N : Type 0} → (W → ℕ) → (N → ℤ) → ℕ → Form → List N → List W → ℕ → Type 0
Floors digits value count before numbers values n = (v : ℕ) → v < n → AreFloors digits value count numbers v (denominator before v) values

whole_rational : (to : PixType) → is_whole_type to ≡ true → is_rational (Typed to) ≡ true → ⊥
whole_rational U8 w r = cc
whole_rational U16 w r = cc
whole_rational U32 w r = cc
whole_rational Rat w r = cc

pub narrow_bounded : {W N : Type 0} (digits : W → ℕ) (value : N → ℤ) (stage : Stage) (to : PixType) (expand : Bool) (before after : Form)
    (new : List W) (numbers : List N)
    → is_whole_type to ≡ true → length numbers ≡ 256 → Floors digits value (bits to) before numbers new after.count
    → IsBounded digits value (stage_after stage (Convert to expand)) after new numbers
unfolding stage_after
narrow_bounded {W} {N} digits value stage to expand before after new numbers whole size floors = record {
  small = λ typed v i d below within.
      let e : N = some_element numbers (omega (arith, size)) in
      rw (floors v below i d e within)
      (modulo_below (int_div_euclid (value (slice_index_or numbers (64 * v + i) e)) (pos (denominator before v))) to whole);
  bound = λ rational. absurd (whole_rational to whole rational);
}

pub narrow_performs : {W N : Type 0} (digits : W → ℕ) (value : N → ℤ) (count : ℕ) (width : Width) (stage : Stage) (to : PixType)
    (expand : Bool) (before after : Form) (position : PixelPosition) (old new : List W) (numbers : List N)
    → is_whole_type to ≡ true → after.count ≤ 4 → AreNarrowed count width stage before to after → length numbers ≡ 256
    → Floors digits value (bits to) before numbers new after.count
    → Performs digits value stage before (Convert to expand) after position old numbers new numbers
unfolding stage_after apply
narrow_performs {W} {N} digits value count width stage to expand before after position old new numbers whole few is size floors frame m
    given most kinds state = record {
      whole = λ typed v i d below within.
          let e : N = some_element numbers (omega (arith, size)) in
          let n = value (slice_index_or numbers (64 * v + i) e) in
          let stands : Stands (fraction (given i) v) n (denominator before v) = state.exact is.0 v i e (is.2 v below).there within in
          floors v below i d e (omega (arith, within, most))
          ∙ sym (narrowed_number to expand (given i) v whole (omega (arith, below, few)) (kinds i ∙ is.0)
          ∙ ap (λ z. modulo z (2 ^ bits to)) (floor_stands (fraction (given i) v) n (denominator before v) stands));
      exact = λ rational. absurd (whole_rational to whole rational);
    }
