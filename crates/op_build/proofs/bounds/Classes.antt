-- The test of the bounds is true for each source and each target class.
use Rattle.std.proofs.Common.{◌≡◌, true, refl}
use Rattle.std.specs.List.{list_all}
use Rattle.frac_math.specs.Gcd.{gcd}
use Rattle.frac_math.specs.Fraction.{over, ratio, ◌+ℚ◌, ◌*ℚ◌, neg_ℚ, inverse, equal_ℚ}
use Rattle.colour_matrix.specs.Levels.{levels, scaled_to}
use Rattle.colour_matrix.specs.Colour.{to_rgb_rows, from_rgb_rows}
use Rattle.op_range.specs.FractionBounds.{sum_bound, product_bound, row_bound, bounds_after, bounds_from}
use Rattle.op_build.specs.SideClasses.{side_classes}
use Rattle.op_build.proofs.bounds.ClassTests.{source_fits, target_fits}

pub classes_fit : list_all (source_fits side_classes) side_classes ≡ true
unfolding gcd over ratio ◌+ℚ◌ ◌*ℚ◌ neg_ℚ inverse equal_ℚ levels scaled_to to_rgb_rows from_rgb_rows sum_bound product_bound row_bound
    bounds_after bounds_from source_fits target_fits side_classes
classes_fit = refl
