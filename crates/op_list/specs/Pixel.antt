-- The elements of a pixel in a frame: the planes one after the other, in each the pixels one after the other, each with the same number of
-- elements.
use Rattle.std.specs.Prelude.{◌≡◌, ◌<◌, ◌≤◌, length, true, ℕ, zero, suc, ◌+◌, ◌-◌, ◌*◌, Bool, if◌then◌else◌, nat_lt, List, [], ◌∷◌, sum}
use Rattle.std.specs.Prelude.{slice_index}
use Rattle.op_list.specs.declared.types.PixType.{PixType}
use Rattle.op_list.specs.declared.position.PixelPosition.{PixelPosition}
use Rattle.op_list.specs.declared.op.Op.{Op}
use Rattle.op_list.specs.declared.op.Op.TheVariants.{Read, Write}
use Rattle.op_list.specs.Types.{bytes, is_whole_type}
use Rattle.op_list.specs.declared.types.Stage.TheVariants.{Start}
use Rattle.op_list.specs.Typing.{are_good}
use Rattle.op_list.specs.Values.{four}

-- the little-endian number of some bytes
abbrev pub number_at : ℕ → List ℕ → ℕ → ℕ
number_at zero frame at = 0
number_at (suc count) frame at = slice_index frame at + 256 * number_at count frame (at + 1)

-- element k of a frame
abbrev pub element : PixType → List ℕ → ℕ → ℕ
element elem frame k = number_at (bytes elem) frame (k * bytes elem)

-- Which element of the frame is element i of a pixel, where planes[p] are those of a pixel in plane p.
-- `before` counts those of a pixel in the planes that are passed over.
abbrev pub element_in : ℕ → ℕ → ℕ → List ℕ → ℕ → ℕ
element_in pixels pixel before [] i = 0
element_in pixels pixel before (n ∷ planes) i =
    if nat_lt i n then pixels * before + pixel * n + i else element_in pixels pixel (before + n) planes (i - n)

-- the pixels of a frame, and the number of one of them
abbrev pub pixel_count : PixelPosition → ℕ
pixel_count position = position.width * position.rows

abbrev pub pixel_number : PixelPosition → ℕ
pixel_number position = position.row * position.width + position.x

-- element i of a pixel, and 0 where it has fewer
unfoldable pub element_of : PixType → List ℕ → List ℕ → PixelPosition → ℕ → ℕ
element_of elem planes frame position i =
    if nat_lt i (sum planes) then element elem frame (element_in (pixel_count position) (pixel_number position) 0 planes i) else 0

-- red, green, blue and alpha of an entry: a little-endian number of 4 bytes with alpha as the highest, then red, green and blue
abbrev pub colours : List ℕ → ℕ → List ℕ
colours frame at = slice_index frame (at + 2) ∷ slice_index frame (at + 1) ∷ slice_index frame at ∷ slice_index frame (at + 3) ∷ []

-- the entry of the pixel's index, behind the indices
unfoldable pub palette_colours : List ℕ → PixelPosition → List ℕ
palette_colours frame position = colours frame (pixel_count position + 4 * slice_index frame (pixel_number position))

-- the values that a Read takes for a pixel
abbrev pub read_values : PixType → List ℕ → Bool → List ℕ → PixelPosition → List ℕ
read_values elem planes palette frame position =
    if palette then palette_colours frame position else four (λ i. element_of elem planes frame position i)

-- the bytes of a frame, as a Read or a Write states them
unfoldable pub frame_length : Op → ℕ → ℕ → ℕ
frame_length (Read elem planes palette) width rows = width * rows * sum planes * bytes elem + (if palette then 1024 else 0)
frame_length (Write elem planes) width rows = width * rows * sum planes * bytes elem
frame_length op width rows = 0

-- a pixel of a frame of the length that its Read states
pub record IsPixelOf (elem : PixType) (planes : List ℕ) (palette : Bool) (frame : List ℕ) (position : PixelPosition) : Type 0 where
  pub column : position.x < position.width
  pub row : position.row < position.rows
  pub good : are_good Start (Read elem planes palette) ≡ true
  pub size : length frame ≡ frame_length (Read elem planes palette) position.width position.rows

-- the same, where the frame has elements and no palette
pub record HasElements (elem : PixType) (planes : List ℕ) (frame : List ℕ) (position : PixelPosition) : Type 0 where
  pub column : position.x < position.width
  pub row : position.row < position.rows
  pub whole : is_whole_type elem ≡ true
  pub few : sum planes ≤ 4
  pub size : length frame ≡ pixel_count position * sum planes * bytes elem

-- where it has a palette behind one index a pixel
pub record HasPalette (frame : List ℕ) (position : PixelPosition) : Type 0 where
  pub column : position.x < position.width
  pub row : position.row < position.rows
  pub size : length frame ≡ pixel_count position + 1024
