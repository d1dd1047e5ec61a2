-- The frames that a list reads, and the elements that fill the frames of a format.
use Rattle.std.specs.Prelude.{◌≡◌, ◌≤◌, true, false, ℕ, ◌*◌, sum}
use Rattle.pix_desc.specs.declared.desc.Desc.{Desc}
use Rattle.pix_desc.specs.Frame.{frame_length}
use Rattle.pix_meaning.specs.declared.pair.Pair.{Pair}
use Rattle.pix_meaning.specs.Pairs.{IsValidPair}
use Rattle.op_list.specs.Types.{bytes, is_whole_type}
use Rattle.op_list.specs.Run.{read_length, write_length}
use Rattle.pix_desc.specs.Shape.{element_counts}
use Rattle.op_build.specs.ElementType.{element_type}
use Rattle.op_build.specs.Recipe.{recipe}

-- a list reads whole frames of the source format
abbrev pub ReadsFrames : Pair → Type 0
ReadsFrames pair = IsValidPair pair → (width rows : ℕ) → read_length (recipe pair) width rows ≡ frame_length pair.from.desc width rows

-- and writes whole frames of the target format, where that has no palette
abbrev pub WritesFrames : Pair → Type 0
WritesFrames pair = IsValidPair pair → pair.to.desc.palette ≡ false
    → (width rows : ℕ) → write_length (recipe pair) width rows ≡ frame_length pair.to.desc width rows

-- The elements of the pixels are all the bytes of a frame.
pub record FillsFrames (desc : Desc) : Type 0 where
  pub whole : is_whole_type (element_type desc) ≡ true
  pub few : sum (element_counts desc) ≤ 4
  pub size : (width rows : ℕ) → frame_length desc width rows ≡ width * rows * sum (element_counts desc) * bytes (element_type desc)
