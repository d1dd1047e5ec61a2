-- The test of the peak is true for each source and each target class.
use Rattle.std.proofs.Common.{◌≡◌, true, refl}
use Rattle.std.specs.List.{list_all}
use Rattle.frac_math.specs.Gcd.{gcd}
use Rattle.frac_math.specs.Fraction.{over, ratio, ◌+ℚ◌, ◌*ℚ◌, neg_ℚ, inverse, equal_ℚ}
use Rattle.colour_matrix.specs.Levels.{levels, scaled_to}
use Rattle.colour_matrix.specs.Colour.{to_rgb_rows, from_rgb_rows}
use Rattle.op_range.specs.Width.{fractions_width}
use Rattle.op_build.specs.SideClasses.{side_classes}
use Rattle.op_opt.specs.Peak.{fractions_peak}
use Rattle.op_opt.proofs.PeakBounds.{small_after, small_from}
use Rattle.row_plan.proofs.PeakTests.{target_is_low, source_is_low}

pub classes_are_low : list_all (source_is_low side_classes) side_classes ≡ true
unfolding gcd over ratio ◌+ℚ◌ ◌*ℚ◌ neg_ℚ inverse equal_ℚ levels scaled_to to_rgb_rows from_rgb_rows fractions_width fractions_peak
    small_after small_from target_is_low source_is_low side_classes
classes_are_low = refl
