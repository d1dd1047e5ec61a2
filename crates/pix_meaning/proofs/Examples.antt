-- The worked conversions, by computation.
use Rattle.std.proofs.Common.{refl}
use Rattle.frac_math.specs.Gcd.{gcd}
use Rattle.frac_math.specs.Fraction.{over, ratio, ◌+ℚ◌, ◌*ℚ◌, neg_ℚ, inverse, floor}
use Rattle.frac_math.specs.Dither.{dither_at}
use Rattle.pix_desc.specs.Frame.{frame_of, frame_component, row_start}
use Rattle.colour_matrix.specs.Levels.{levels, scaled_to, from_code, to_code}
use Rattle.colour_matrix.specs.Colour.{to_rgb, from_rgb}
use Rattle.pix_meaning.specs.Values.{source_component, source_value, source_values, rgb_values, target_values, wanted}
use Rattle.pix_meaning.specs.Target.{clamped, result_of, target_rows}
use Rattle.pix_meaning.specs.Examples.{WorkedConversions}

pub worked_conversions : WorkedConversions
unfolding gcd over ratio ◌+ℚ◌ ◌*ℚ◌ neg_ℚ inverse floor dither_at frame_of frame_component row_start levels scaled_to from_code to_code
    to_rgb from_rgb source_component source_value source_values rgb_values target_values wanted clamped result_of target_rows
worked_conversions = record {
  rounded_up = refl;
  rounded_down = refl;
  red = refl;
  red_back = refl;
  blue_clamped = refl;
  green = refl;
  green_bt709 = refl;
  neutral_chroma = refl;
  missing_alpha = refl;
  bits_above = refl;
  spare_bits = refl;
  packed = refl;
  index = refl;
  dithered = refl;
  dithered_row = refl;
}
