-- The test of the peak over the classes of sides.
use Rattle.std.specs.Prelude.{ℕ, ◌*◌, ◌^◌, Bool, if◌then◌else◌, nat_lt, List, [], ◌∷◌}
use Rattle.std.specs.List.{list_all}
use Rattle.op_list.specs.declared.op.Op.TheVariants.{Dither}
use Rattle.op_build.specs.Recipe.{to_codes_by}
use Rattle.op_build.specs.SideClasses.{SideClass}
use Rattle.op_build.proofs.bounds.ClassTests.{class_levels, source_ops, target_rows_ops, test_then}
use Rattle.op_opt.specs.Peak.{Peaked}
use Rattle.op_opt.proofs.PeakBounds.{small_after, small_from, whole_peaked}

-- the bits of the type of a source's codes: only red, green and blue are read from words of 32
abbrev pub bits_of : Bool → ℕ
bits_of rgb = if rgb then 32 else 16

-- no limit is above the greatest code of 16 bits
abbrev pub greatest_limit : ℕ
greatest_limit = 65535

unfoldable pub target_is_low : Peaked → SideClass → Bool
target_is_low values to =
    test_then (small_from (target_rows_ops to) values)
    (λ rows. test_then (small_from (to_codes_by (class_levels to) ∷ []) rows)
    (λ codes. test_then (small_after (Dither 4) codes) (λ last. nat_lt (greatest_limit * last.width.denominator) (2 ^ 126))))

unfoldable pub source_is_low : List SideClass → SideClass → Bool
source_is_low targets from =
    test_then (small_from (source_ops from) (whole_peaked (bits_of from.rgb))) (λ values. list_all (target_is_low values) targets)
