-- Slices that are handed over in cells, each in one of its own, once their rows of the source are read.
use Rattle.std.specs.Prelude.{◌≡◌, ◌≢◌, ℕ, ◌<◌, List, [], map, sum, length, slice_get, Option, None, Some, IfSome, Result, Ok}
use Rattle.std.specs.List.{concat}
use Rattle.std.specs.Sync.OnceLock.{Named}
use Rattle.std.specs.declared.sync.OnceToken.{OnceToken}
use Rattle.pix_io.specs.Shown.{Shown}
use Rattle.pix_io.specs.declared.stream.Failed.{Failed}
use Rattle.pix_io.specs.declared.transfer.Got.{Got}
use Rattle.pix_io.specs.declared.transfer.Got.TheVariants.{Whole}
use Rattle.frame_slices.specs.declared.frame_slice.FrameSlice.{FrameSlice}
use Rattle.frame_slices.specs.declared.handed.Handed.{Handed}
use Rattle.frame_slices.specs.declared.frame_slice.Place.{Place}
use Rattle.frame_slices.specs.FrameSlices.{place_of, rows_of, places_from, plane_of, planes_in, behind_of, source_in, Reads}

-- what shows which slice a cell holds, or that it holds none
abbrev pub Token : Type 0
Token = OnceToken (Option Handed)

-- a cell holds this slice
abbrev pub HoldsSlice : FrameSlice → Option Handed → Type 0
HoldsSlice slice None = ⊥
HoldsSlice slice (Some handed) = (handed.place ≡ slice.place) × (handed.input.items ≡ slice.input.items)

-- it is shown that the cell of this name holds the slice; nothing is shown where the cell had been filled before
abbrev pub ShowsSlice : ℕ → FrameSlice → Option Token → Type 0
ShowsSlice name slice None = Unit {0}
ShowsSlice name slice (Some token) = (token.of ≡ name) × HoldsSlice slice token.value

-- slices that were handed over in the first cells, with what shows it of each
pub record AreHanded (cells : List Named) (slices : List FrameSlice) (tokens : List (Option Token)) : Type 0 where
  pub count : length tokens ≡ length slices
  pub each : (k : ℕ) (cell : Named) (slice : FrameSlice) (token : Option Token)
      → slice_get cells k ≡ Some cell → slice_get slices k ≡ Some slice → slice_get tokens k ≡ Some token
      → ShowsSlice cell.id slice token

-- ---- what is read while others are converted

-- the rows of a slice that are read last: those of one plane, or none where all was read before
abbrev pub part_of : Option ℕ → FrameSlice → List ℕ
part_of None slice = []
part_of (Some plane) slice = plane_of plane slice

abbrev pub part_in : Option ℕ → List FrameSlice → List ℕ
part_in part slices = concat (map (part_of part) slices)

-- what is read before them: the planes before that one, or the whole frame
abbrev pub front_in : Place → Option ℕ → List FrameSlice → List ℕ
front_in whole None slices = source_in whole slices
front_in whole (Some plane) slices = planes_in plane slices

-- slices of the whole frame
pub record AreOfFrame (whole : Place) (slices : List FrameSlice) : Type 0 where
  pub some : 0 < length slices
  pub places : map place_of slices ≡ places_from whole.source whole.target whole.width 0 (map rows_of slices)
  pub covers : sum (map rows_of slices) ≡ whole.rows

-- the plane is not the one of the part
abbrev pub IsOther : Option ℕ → ℕ → Type 0
IsOther None plane = Unit {0}
IsOther (Some part) plane = plane ≢ part

-- a part is of one of the four planes
abbrev pub IsPart : Option ℕ → Type 0
IsPart part = IfSome part (λ plane. plane < 4)

-- ys are xs but for their part
pub record AreBut (part : Option ℕ) (xs ys : List FrameSlice) : Type 0 where
  pub others : (plane : ℕ) → plane < 4 → IsOther part plane → map (plane_of plane) ys ≡ map (plane_of plane) xs
  pub behind : map behind_of ys ≡ map behind_of xs
  pub places : map place_of ys ≡ map place_of xs

-- where the read was whole
abbrev pub IfWhole : Result Got Failed → Type 0 → Type 0
IfWhole (Ok Whole) fact = fact
IfWhole _ fact = Unit {0}

-- The part of slices was read, slice after slice, and each slice was then handed over.
pub record Feeds (part : Option ℕ) (old new : Shown) (result : Result Got Failed) (slices : List FrameSlice) (cells : List Named)
    (tokens : List (Option Token)) : Type 0 where
  pub all : List FrameSlice
  pub read : Reads old new result (part_in part all)
  pub but : AreBut part slices all
  pub handed : IfWhole result (AreHanded cells all tokens)
