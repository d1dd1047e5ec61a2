-- A frame held as slices of its rows: what they hold, and how a read that goes on from slice to slice ends.
use Rattle.std.specs.Prelude.{◌≡◌, ℕ, zero, suc, ◌+◌, ◌-◌, ◌*◌, ◌/◌, ◌<◌, min, List, [], ◌∷◌, ◌++◌, map, length, Result, IfOk}
use Rattle.std.specs.Prelude.{OnErr, nat_eq, if◌then◌else◌}
use Rattle.std.specs.List.{concat, range_with_len}
use Rattle.pix_desc.specs.declared.desc.Desc.{Desc}
use Rattle.pix_io.specs.Shown.{Shown}
use Rattle.pix_io.specs.Faults.{HasCause}
use Rattle.pix_io.specs.Streams.{TakesWhole, TakesPart}
use Rattle.pix_io.specs.declared.stream.Failed.{Failed}
use Rattle.pix_io.specs.declared.transfer.Got.{Got}
use Rattle.pix_io.specs.declared.transfer.Got.TheVariants.{Whole, End, Short}
use Rattle.pix_meaning.specs.declared.pair.Pair.{Pair}
use Rattle.pix_meaning.specs.Target.{target_rows}
use Rattle.row_plan.specs.Slices.{RowSlice, plane_rows, behind_planes, joined}
use Rattle.frame_slices.specs.declared.frame_slice.Place.{Place}
use Rattle.frame_slices.specs.declared.frame_slice.FrameSlice.{FrameSlice}

-- ---- what slices hold

-- its number of rows
abbrev pub rows_of : FrameSlice → ℕ
rows_of slice = slice.place.rows

-- where it lies
abbrev pub place_of : FrameSlice → Place
place_of slice = slice.place

-- its bytes of the source, and its bytes of the target
abbrev pub input_of : FrameSlice → RowSlice
input_of slice = record { rows = slice.place.rows; bytes = slice.input.items }

abbrev pub output_of : FrameSlice → RowSlice
output_of slice = record { rows = slice.place.rows; bytes = slice.output.items }

abbrev pub output_bytes : FrameSlice → List ℕ
output_bytes slice = slice.output.items

-- the target rows of a slice's source
abbrev pub target_of : Pair → FrameSlice → List ℕ
target_of pair slice = target_rows pair slice.place.width slice.place.rows slice.place.first slice.input.items

-- places of so many rows each, one behind the other
abbrev pub places_from : Desc → Desc → ℕ → ℕ → List ℕ → List Place
places_from source target width first [] = []
places_from source target width first (rows ∷ counts) =
    record { source = source; target = target; width = width; first = first; rows = rows }
    ∷ places_from source target width (first + rows) counts

-- where slice k of a frame lies that is cut into slices of `each` rows, the last one shorter where it must be
abbrev pub slice_place : Place → ℕ → ℕ → Place
slice_place whole each k =
    record { source = whole.source; target = whole.target; width = whole.width; first = k * each; rows = min each (whole.rows - k * each) }

-- how many slices that are
abbrev pub slice_count : Place → ℕ → ℕ
slice_count whole each = (whole.rows - 1) / each + 1

-- slices that cut the whole frame so
abbrev pub AreCut : Place → ℕ → List FrameSlice → Type 0
AreCut whole each slices = map place_of slices ≡ map (slice_place whole each) (range_with_len 0 (slice_count whole each))

-- ---- plane by plane

-- the rows of a plane of a slice, of the source and of the target
abbrev pub plane_of : ℕ → FrameSlice → List ℕ
plane_of plane slice = plane_rows slice.place.source slice.place.width slice.place.rows slice.input.items 0 slice.place.rows plane

abbrev pub target_plane_of : ℕ → FrameSlice → List ℕ
target_plane_of plane slice = plane_rows slice.place.target slice.place.width slice.place.rows slice.output.items 0 slice.place.rows plane

-- what stands behind the planes of a slice
abbrev pub behind_of : FrameSlice → List ℕ
behind_of slice = behind_planes slice.place.source slice.place.width slice.place.rows slice.input.items

-- a plane of all slices
abbrev pub plane_in : ℕ → List FrameSlice → List ℕ
plane_in plane slices = concat (map (plane_of plane) slices)

abbrev pub target_plane_in : ℕ → List FrameSlice → List ℕ
target_plane_in plane slices = concat (map (target_plane_of plane) slices)

-- the planes before one of all slices, plane after plane
abbrev pub planes_in : ℕ → List FrameSlice → List ℕ
planes_in zero slices = []
planes_in (suc plane) slices = planes_in plane slices ++ plane_in plane slices

abbrev pub target_planes_in : ℕ → List FrameSlice → List ℕ
target_planes_in zero slices = []
target_planes_in (suc plane) slices = target_planes_in plane slices ++ target_plane_in plane slices

-- the bytes behind the planes of a raw frame
abbrev pub palette_length : Desc → ℕ
palette_length desc = if desc.palette then 1024 else 0

-- what stands behind the planes of the first slice
abbrev pub behind_in : List FrameSlice → List ℕ
behind_in [] = []
behind_in (slice ∷ slices) = behind_of slice

-- behind the planes of all slices stand these bytes
abbrev pub HavePalette : List ℕ → List FrameSlice → Type 0
HavePalette palette slices = map behind_of slices ≡ map (λ _. palette) slices

-- behind the planes of all slices stands the same: the whole palette, where there is one
abbrev pub HaveOnePalette : List FrameSlice → Type 0
HaveOnePalette slices = HavePalette (behind_in slices) slices

-- the source frame that slices of a frame make, and the target frame
unfoldable pub source_in : Place → List FrameSlice → List ℕ
source_in whole slices = joined whole.source whole.width (map input_of slices)

unfoldable pub target_in : Place → List FrameSlice → List ℕ
target_in whole slices = joined whole.target whole.width (map output_of slices)

-- ---- reads that go on

-- the number that a short read names
abbrev pub count_in : Got → ℕ
count_in Whole = 0
count_in End = 0
count_in (Short n) = n

-- how a read ended of which `filled` bytes were there before its last part
abbrev pub got_behind : ℕ → Got → Got
got_behind filled Whole = Whole
got_behind filled End = if nat_eq filled 0 then End else Short filled
got_behind filled (Short n) = Short (filled + n)

-- a read that stopped gave fewer bytes than it was to give, and a short one some
abbrev pub StopsInside : Got → ℕ → Type 0
StopsInside Whole size = Unit {0}
StopsInside End size = 0 < size
StopsInside (Short n) size = (0 < n) × (n < size)

-- A read of these bytes: they were all taken, or at the end of the input or at a fault a front of them, shorter than they are.
pub record Reads (old new : Shown) (result : Result Got Failed) (bytes : List ℕ) : Type 0 where
  pub taken : IfOk result (λ got. TakesWhole old new got bytes)
  pub range : IfOk result (λ got. StopsInside got (length bytes))
  pub part_taken : OnErr result (TakesPart old new bytes)
  pub cause : HasCause old new result
