-- Slices of which some rows are converted.
use Rattle.std.specs.Prelude.{ℕ, ◌*◌, List}
use Rattle.pix_desc.specs.Shape.{element_counts}
use Rattle.pix_meaning.specs.declared.pair.Pair.{Pair}
use Rattle.pix_meaning.specs.Target.{target_rows}
use Rattle.op_list.specs.Store.{HaveSameElements}
use Rattle.op_build.specs.ElementType.{element_type}
use Rattle.row_plan.specs.declared.slice.Slice.{Slice}

-- the output has the elements of the target rows in its first n rows
abbrev pub AreConverted : Pair → Slice → List ℕ → List ℕ → ℕ → Type 0
AreConverted pair slice input output n =
    HaveSameElements (element_type pair.to.desc) (element_counts pair.to.desc) slice.width slice.rows (n * slice.width) output
    (target_rows pair slice.width slice.rows slice.first input)
