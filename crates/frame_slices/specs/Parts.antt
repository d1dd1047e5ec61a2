-- The part of a frame that is read while others are converted.
use Rattle.std.specs.Prelude.{◌≡◌, ℕ, ◌+◌, if◌then◌else◌, nat_eq, List, map, Option, Ok}
use Rattle.pix_io.specs.Shown.{Shown}
use Rattle.pix_io.specs.declared.transfer.Got.TheVariants.{Whole}
use Rattle.pix_meaning.specs.declared.pair.Pair.{Pair}
use Rattle.frame_slices.specs.declared.frame_slice.FrameSlice.{FrameSlice}
use Rattle.frame_slices.specs.declared.handed.TargetRows.{TargetRows}
use Rattle.frame_slices.specs.declared.unfinished.Unfinished.{Unfinished}
use Rattle.frame_slices.specs.declared.unfinished.Unfinished.TheVariants as left
use Rattle.frame_slices.specs.FrameSlices.{place_of, output_bytes, target_of, Reads}
use Rattle.frame_slices.specs.Handing.{part_in, AreBut}
use Rattle.frame_slices.specs.Gathering.{place_made, bytes_made}
use Rattle.frame_slices.specs.Converting.{LeavesOffIn}

-- the number of bytes that it tells, and what is told where n bytes had been read before
abbrev pub short_in : Unfinished → ℕ
short_in (left.Short n) = n
short_in _ = 0

abbrev pub left_behind : ℕ → Unfinished → Unfinished
left_behind n left.End = if nat_eq n 0 then left.End else left.Short n
left_behind n (left.Short m) = left.Short (n + m)
left_behind n (left.Failed failed) = left.Failed failed
left_behind n left.OutOfMemory = left.OutOfMemory

-- The part of slices was read, and these are the target rows of all of them.
pub record ConvertsPart (pair : Pair) (part : Option ℕ) (old new : Shown) (slices : List FrameSlice) (rows : List TargetRows) : Type 0
  where
    pub all : List FrameSlice
    pub read : Reads old new (Ok Whole) (part_in part all)
    pub but : AreBut part slices all
    pub places : map place_made rows ≡ map place_of all
    pub outputs : map bytes_made rows ≡ map (target_of pair) all

-- The part of slices was read, and these are the slices with the target rows of all of them.
pub record ConvertsRest (pair : Pair) (part : Option ℕ) (old new : Shown) (slices converted : List FrameSlice) : Type 0 where
  pub all : List FrameSlice
  pub read : Reads old new (Ok Whole) (part_in part all)
  pub but : AreBut part slices all
  pub places : map place_of converted ≡ map place_of all
  pub outputs : map output_bytes converted ≡ map (target_of pair) all

-- the part of slices was being read
abbrev pub LeavesOffPart : Option ℕ → Shown → Shown → List FrameSlice → Unfinished → Type 0
LeavesOffPart part old new slices =
    LeavesOffIn (λ bytes. (all : List FrameSlice) × AreBut part slices all × (bytes ≡ part_in part all)) old new
