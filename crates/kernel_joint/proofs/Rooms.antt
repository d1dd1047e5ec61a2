-- The room of a width of numbers.
use Rattle.std.proofs.Common.{◌≡◌, ℕ, ◌^◌, ◌<◌, ◌≤◌, ℤ, pos, arith, FitsSigned, to_z, of_z}
use Rattle.std.specs.Prelude.{unsigned_abs}
use Rattle.std.specs.Int.{w128}
use Rattle.std.proofs.lemmas.Int.{fits_signed_from_abs}
use Rattle.kernel_step.specs.declared.form.NumberWidth.{NumberWidth}
use Rattle.kernel_step.specs.declared.form.NumberWidth.TheVariants.{Bits32, Bits64, Bits128}
use Rattle.kernel_step.specs.Forms.{width_of}
use Rattle.kernel_joint.specs.Joint.{room}
use Rattle.kernel_step.proofs.Intervals.{number_width_plain}

-- it is at most that of 128 bits
pub room_below : (number_width : NumberWidth) → room number_width ≤ 2 ^ 126
room_below Bits32 = omega arith
room_below Bits64 = omega arith
room_below Bits128 = omega arith

-- what is below it fits
pub small_fits : (number_width : NumberWidth) (z : ℤ) (m : ℕ) → unsigned_abs z ≤ m → m < room number_width
    → FitsSigned (width_of number_width) z
small_fits Bits32 z m h small = fits_signed_from_abs (width_of Bits32) z (omega (arith, h, small))
small_fits Bits64 z m h small = fits_signed_from_abs (width_of Bits64) z (omega (arith, h, small))
small_fits Bits128 z m h small = fits_signed_from_abs (width_of Bits128) z (omega (arith, h, small))

pub below_fits : (number_width : NumberWidth) (m limit : ℕ) → m < limit → limit ≤ room number_width
    → FitsSigned (width_of number_width) (pos m)
below_fits number_width m limit below most = small_fits number_width (pos m) m (omega arith) (omega (arith, below, most))

pub small_plain : (number_width : NumberWidth) (z : ℤ) → unsigned_abs z < room number_width → to_z w128 (of_z w128 z) ≡ z
small_plain number_width z small =
    number_width_plain number_width z (small_fits number_width z (unsigned_abs z) (omega arith) small)

pub below_most : (number_width : NumberWidth) (n : ℕ) → n < room number_width → n < 2 ^ 126
below_most number_width n small = omega (arith, small, room_below number_width)
