-- The list of a pair means its target frame: at each pixel of each frame it gives the elements of the target rows.
use Rattle.std.specs.Prelude.{◌≡◌, ◌<◌, false, Some, ℕ, ◌+◌, List, length, All}
use Rattle.pix_desc.specs.Frame.{frame_length}
use Rattle.pix_desc.specs.declared.desc.Desc.{Desc}
use Rattle.pix_meaning.specs.declared.pair.Pair.{Pair}
use Rattle.pix_meaning.specs.Pairs.{IsValidPair}
use Rattle.pix_meaning.specs.Target.{target_rows}
use Rattle.op_list.specs.declared.op.Op.{Op}
use Rattle.op_list.specs.Values.{four}
use Rattle.op_list.specs.Pixel.{element_of}
use Rattle.op_list.specs.Run.{run, checked_run}
use Rattle.pix_desc.specs.Shape.{element_counts}
use Rattle.op_build.specs.ElementType.{element_type}
use Rattle.op_build.specs.Recipe.{recipe}
use Rattle.op_build.specs.SideClasses.{side_class, side_classes, IsOneOf}

-- the elements of a pixel of a frame, and 0 for those that it has not
abbrev pub elements_at : Desc → List ℕ → ℕ → ℕ → ℕ → ℕ → List ℕ
elements_at desc frame width rows x row =
    four (λ i. element_of (element_type desc) (element_counts desc) frame
    (record { width = width; rows = rows; x = x; row = row; y = row }) i)

-- At every pixel of every source frame the list gives the elements of the target rows. `first` is the row of the whole frame at which the
-- rows begin.
abbrev pub MeansTargetRows : Pair → List Op → Type 0
MeansTargetRows pair ops =
    (frame : List ℕ) (width rows first x row : ℕ) → All (λ byte. byte < 256) frame → length frame ≡ frame_length pair.from.desc width rows
    → x < width → row < rows
    → run ops frame width rows x row (first + row) ≡ elements_at pair.to.desc (target_rows pair width rows first frame) width rows x row

-- The recipe's list does, for every valid pair whose target has no palette.
abbrev pub MeansItsTarget : Pair → Type 0
MeansItsTarget pair = IsValidPair pair → pair.to.desc.palette ≡ false → MeansTargetRows pair (recipe pair)

-- Where both sides are of the classes that the formats of the table and the named matrices give, no checked step of the list is missing:
-- the checked
-- evaluation of a pixel is the exact one.
abbrev pub CheckedRunSucceeds : Pair → Type 0
CheckedRunSucceeds pair = IsValidPair pair → IsOneOf (side_class pair.from) side_classes → IsOneOf (side_class pair.to) side_classes
    → (frame : List ℕ) (width rows x row y : ℕ) → All (λ byte. byte < 256) frame
    → checked_run (recipe pair) frame width rows x row y ≡ Some (run (recipe pair) frame width rows x row y)
