-- The laws of raw frames over descriptors that pass the check.
use Rattle.std.proofs.Common.{◌≡◌, ℕ, false, List}
use Rattle.pix_desc.specs.declared.desc.Desc.{Desc}
use Rattle.pix_desc.specs.Frame.{frame_of, IsFrameOf, FitDepths, HasOneFrame}
use Rattle.pix_desc.specs.Layouts.{IsValid}
use Rattle.pix_desc.proofs.Valid.{laid_out}
use Rattle.pix_desc.proofs.FrameExists as Exists
use Rattle.pix_desc.proofs.FrameOnly as Only

-- the frame that is made of values says them
pub frame_says : (desc : Desc) (width height : ℕ) (value : ℕ → ℕ → ℕ → ℕ) → IsValid desc → desc.palette ≡ false
    → FitDepths desc width height value
    → IsFrameOf desc width height value (frame_of desc width height value)
frame_says desc width height value valid none fit = Exists.frame_says desc width height value (laid_out desc valid) fit none

-- a frame that says values is the one that is made of them
pub only_frame : (desc : Desc) (width height : ℕ) (value : ℕ → ℕ → ℕ → ℕ) (frame : List ℕ) → IsValid desc → desc.palette ≡ false
    → IsFrameOf desc width height value frame
    → frame ≡ frame_of desc width height value
only_frame desc width height value frame valid none says = Only.only_frame desc width height value (laid_out desc valid) frame none says

pub one_frame : (desc : Desc) (width height : ℕ) (value : ℕ → ℕ → ℕ → ℕ) → IsValid desc → desc.palette ≡ false
    → HasOneFrame desc width height value
one_frame desc width height value valid none = record {
  says = frame_says desc width height value valid none;
  only = λ frame says. only_frame desc width height value frame valid none says;
}

-- two frames that say the same values are one
pub same_frames : (desc : Desc) (width height : ℕ) (value : ℕ → ℕ → ℕ → ℕ) (a b : List ℕ) → IsValid desc → desc.palette ≡ false
    → IsFrameOf desc width height value a → IsFrameOf desc width height value b → a ≡ b
same_frames desc width height value a b valid none first second =
    Only.same_frames desc width height value (laid_out desc valid) a b none first second
