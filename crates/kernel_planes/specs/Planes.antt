-- The rows of a frame's planes as slices, and the frame of one row that they make.
use Rattle.std.specs.Prelude.{ℕ, List, [], ◌≡◌, ◌+◌, ◌-◌, ◌*◌, ◌<◌, if◌then◌else◌, nat_lt, Bool, true, false, ◌∷◌, ◌++◌, drop, length}
use Rattle.std.specs.Prelude.{slice_index, slice_index_or}
use Rattle.op_list.specs.declared.types.PixType.{PixType}
use Rattle.op_list.specs.declared.types.PixType.TheVariants.{U8}
use Rattle.op_list.specs.declared.op.Op.{Op}
use Rattle.op_list.specs.declared.op.Op.TheVariants.{Read, Write, SwapBytes, Unpack, Pack, Clear, LeftShift, RightShift, Swizzle, Convert}
use Rattle.op_list.specs.declared.op.Op.TheVariants.{Dither, Linear, Scale, Min, Max}
use Rattle.op_list.specs.Types.{bytes}
use Rattle.op_list.specs.Pixel.{element}
use Rattle.kernel_planes.specs.declared.planes.Planes.{Planes}

abbrev pub planes_of : Op → List ℕ
planes_of (Read elem planes palette) = planes
planes_of (Write elem planes) = planes
planes_of SwapBytes = []
planes_of (Unpack widths) = []
planes_of (Pack widths) = []
planes_of (Clear entries) = []
planes_of (LeftShift n) = []
planes_of (RightShift n) = []
planes_of (Swizzle from) = []
planes_of (Convert to expand) = []
planes_of (Dither count) = []
planes_of (Linear rows) = []
planes_of (Scale by) = []
planes_of (Min limits) = []
planes_of (Max limits) = []

abbrev pub elem_of : Op → PixType
elem_of (Read elem planes palette) = elem
elem_of (Write elem planes) = elem
elem_of SwapBytes = U8
elem_of (Unpack widths) = U8
elem_of (Pack widths) = U8
elem_of (Clear entries) = U8
elem_of (LeftShift n) = U8
elem_of (RightShift n) = U8
elem_of (Swizzle from) = U8
elem_of (Convert to expand) = U8
elem_of (Dither count) = U8
elem_of (Linear rows) = U8
elem_of (Scale by) = U8
elem_of (Min limits) = U8
elem_of (Max limits) = U8

-- the rows of four planes
abbrev pub row_list : List ℕ → List ℕ → List ℕ → List ℕ → List (List ℕ)
row_list first second third fourth = first ∷ second ∷ third ∷ fourth ∷ []

abbrev pub rows_of : Planes → List (List ℕ)
rows_of planes = row_list planes.first.now planes.second.now planes.third.now planes.fourth.now

-- the row of plane p
abbrev pub row_at : List (List ℕ) → ℕ → List ℕ
row_at rows p = slice_index_or rows p []

-- the raw frame of one row: the rows of the planes one after the other, and what stands behind them
abbrev pub row_frame : List (List ℕ) → List ℕ → List ℕ
row_frame [] behind = behind
row_frame (row ∷ rows) behind = row ++ row_frame rows behind

-- the bytes of a row of plane p of the frames that a Read or a Write states
abbrev pub row_length : Op → ℕ → ℕ → ℕ
row_length op width p = width * slice_index (planes_of op) p * bytes (elem_of op)

-- each row has the bytes of its plane, and none where there is no such plane
abbrev pub AreRows : Op → ℕ → List (List ℕ) → Type 0
AreRows op width rows = (p : ℕ) → p < 4 → length (row_at rows p) ≡ row_length op width p

-- the bytes behind the planes: the entries of a palette, or none
abbrev pub palette_length : Op → ℕ
palette_length (Read elem planes palette) = if palette then 1024 else 0
palette_length op = 0

-- element i of the pixel at x in the rows of its planes, and 0 where it has fewer
abbrev pub row_element : PixType → List ℕ → List (List ℕ) → ℕ → ℕ → ℕ
row_element elem [] rows x i = 0
row_element elem (n ∷ planes) rows x i =
    if nat_lt i n then element elem (row_at rows 0) (x * n + i) else row_element elem planes (drop 1 rows) x (i - n)

-- an operation that states planes
abbrev pub has_planes : Op → Bool
has_planes (Read elem planes palette) = true
has_planes (Write elem planes) = true
has_planes op = false
