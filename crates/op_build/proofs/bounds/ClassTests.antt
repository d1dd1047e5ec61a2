-- The test of the bounds of checked fractions over the classes of sides.
use Rattle.std.specs.Prelude.{ℕ, zero, suc, ◌-◌, ◌^◌, Bool, true, false, not, if◌then◌else◌, List, ◌∷◌, Option, Some, None, slice_index}
use Rattle.std.specs.List.{list_all}
use Rattle.colour_matrix.specs.declared.class.Class.{Class}
use Rattle.colour_matrix.specs.declared.class.Class.TheVariants.{Direct, Luma, Chroma}
use Rattle.colour_matrix.specs.declared.class.Levels.{Levels}
use Rattle.colour_matrix.specs.Levels.{levels}
use Rattle.colour_matrix.specs.Colour.{to_rgb_rows, from_rgb_rows}
use Rattle.op_list.specs.declared.op.Op.{Op}
use Rattle.op_list.specs.declared.op.Op.TheVariants.{Dither, Linear}
use Rattle.op_list.specs.Values.{four}
use Rattle.op_range.specs.FractionBounds.{FractionBound, bound, bounds_after, bounds_from}
use Rattle.op_build.specs.Recipe.{only_if, from_codes_by, to_codes_by, over_three}
use Rattle.op_build.specs.SideClasses.{SideClass}

-- ---- the operations of a class

abbrev pub class_at : Bool → ℕ → Class
class_at rgb zero = if rgb then Direct else Luma
class_at rgb (suc zero) = if rgb then Direct else Chroma
class_at rgb (suc (suc zero)) = if rgb then Direct else Chroma
class_at rgb (suc (suc (suc c))) = Direct

abbrev pub class_levels : SideClass → ℕ → Levels
class_levels k c = levels (class_at k.rgb c) (slice_index k.depths c) k.range

abbrev pub source_ops : SideClass → List Op
source_ops k = from_codes_by (class_levels k) ∷ only_if (not k.rgb) (Linear (over_three (to_rgb_rows k.matrix)))

abbrev pub target_rows_ops : SideClass → List Op
target_rows_ops k = only_if (not k.rgb) (Linear (over_three (from_rgb_rows k.matrix)))

abbrev pub code_bounds : (ℕ → ℕ) → List FractionBound
code_bounds depth = four (λ c. bound 1 (2 ^ depth c - 1))

-- ---- the test

abbrev pub is_there : {A : Type 0} → Option A → Bool
is_there None = false
is_there (Some x) = true

abbrev pub test_then : {A : Type 0} → Option A → (A → Bool) → Bool
test_then None f = false
test_then (Some x) f = f x

unfoldable pub target_fits : List FractionBound → SideClass → Bool
target_fits bounds to =
    test_then (bounds_from (target_rows_ops to) bounds)
    (λ values. test_then (bounds_after (to_codes_by (class_levels to)) values) (λ codes. is_there (bounds_after (Dither 4) codes)))

unfoldable pub source_fits : List SideClass → SideClass → Bool
source_fits targets from =
    test_then (bounds_from (source_ops from) (code_bounds (slice_index from.depths))) (λ bounds. list_all (target_fits bounds) targets)
