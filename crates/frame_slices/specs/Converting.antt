-- The next frame of an input, read and converted: what then holds, and how it is left off.
use Rattle.std.specs.Prelude.{◌≡◌, ℕ, List, length, Option, None, Some, MatchOption, Result, Ok, Err}
use Rattle.pix_desc.specs.Frame.{frame_length}
use Rattle.pix_io.specs.Shown.{Shown}
use Rattle.pix_io.specs.Faults.{HasNoFault}
use Rattle.pix_io.specs.declared.stream.Failed.{Failed}
use Rattle.pix_io.specs.declared.transfer.Got.{Got}
use Rattle.pix_io.specs.declared.transfer.Got.TheVariants as got
use Rattle.pix_meaning.specs.declared.pair.Pair.{Pair}
use Rattle.pix_meaning.specs.Target.{target_frame}
use Rattle.frame_slices.specs.declared.unfinished.Unfinished.{Unfinished}
use Rattle.frame_slices.specs.declared.unfinished.Unfinished.TheVariants as left
use Rattle.frame_slices.specs.FrameSlices.{Reads}

-- The next frame of the input was read, and these bytes are its target frame.
pub record ConvertsNext (pair : Pair) (width rows : ℕ) (old new : Shown) (target : List ℕ) : Type 0 where
  pub frame : List ℕ
  pub read : Reads old new (Ok got.Whole) frame
  pub size : length frame ≡ frame_length pair.from.desc width rows
  pub converted : target ≡ target_frame pair width rows frame

-- how the read ended that stopped; nothing where it was not a read that stopped
abbrev pub read_of : Unfinished → Option (Result Got Failed)
read_of left.End = Some (Ok got.End)
read_of (left.Short n) = Some (Ok (got.Short n))
read_of (left.Failed failed) = Some (Err failed)
read_of left.OutOfMemory = None

-- bytes were being read for which a fact holds; or no read failed, but memory was refused
abbrev pub LeavesOffIn : (List ℕ → Type 0) → Shown → Shown → Unfinished → Type 0
LeavesOffIn fact old new why =
    MatchOption (read_of why) (HasNoFault old new) (λ result. (bytes : List ℕ) × fact bytes × Reads old new result bytes)

-- a frame of so many bytes was being read
abbrev pub LeavesOff : ℕ → Shown → Shown → Unfinished → Type 0
LeavesOff size = LeavesOffIn (λ frame. length frame ≡ size)
