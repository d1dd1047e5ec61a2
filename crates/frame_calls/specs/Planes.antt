-- Planes whose rows stand apart: each some bytes, and as many from one row to the next as its stride.
use Rattle.std.specs.Prelude.{◌≡◌, ◌<◌, ◌≤◌, ◌⊎◌, ℕ, ◌+◌, ◌-◌, ◌*◌, Bool, ◌&&◌, not, nat_le, if◌then◌else◌, List, [], ◌∷◌}
use Rattle.std.specs.Prelude.{take, length, slice_index, Result, Ok, Err}
use Rattle.std.specs.List.{between}
use Rattle.pix_desc.specs.declared.desc.Desc.{Desc}
use Rattle.pix_desc.specs.Frame.{row_length}
use Rattle.pix_meaning.specs.declared.pair.Pair.{Pair}
use Rattle.pix_meaning.specs.Target.{target_rows}
use Rattle.kernel_planes.specs.declared.planes.Planes.{Planes}
use Rattle.kernel_planes.specs.Planes.{row_at, row_frame, row_list, rows_of}
use Rattle.row_plan.specs.Planes.{palette_bytes}
use Rattle.frame_calls.specs.declared.refusal.Refusal.{Refusal}
use Rattle.frame_calls.specs.declared.refusal.Refusal.TheVariants as refusal
use Rattle.frame_calls.specs.declared.rows.Rows.{Rows}
use Rattle.frame_calls.specs.Calls.{are_rows}

-- the bytes of a row of each plane of a format, 0 where it has no such plane
abbrev pub row_sizes : Desc → ℕ → List ℕ
row_sizes desc width = row_length desc width 0 ∷ row_length desc width 1 ∷ row_length desc width 2 ∷ row_length desc width 3 ∷ []

-- row r of a plane: so many bytes, r strides from the first
abbrev pub plane_row : List ℕ → ℕ → ℕ → ℕ → List ℕ
plane_row bytes stride size r = between (r * stride) (r * stride + size) bytes

-- row r of plane p
abbrev pub row_of : List (List ℕ) → List ℕ → List ℕ → ℕ → ℕ → List ℕ
row_of planes strides sizes r p = plane_row (row_at planes p) (slice_index strides p) (slice_index sizes p) r

-- row r of each plane
abbrev pub rows_at : List (List ℕ) → List ℕ → List ℕ → ℕ → List (List ℕ)
rows_at planes strides sizes r =
    let row = row_of planes strides sizes r in row_list (row 0) (row 1) (row 2) (row 3)

-- row r of a source as a raw frame of one row, with the entries of its palette
abbrev pub source_row : Desc → ℕ → Planes → List ℕ → ℕ → List ℕ
source_row desc width source strides r =
    row_frame (rows_at (rows_of source) strides (row_sizes desc width) r) (take (palette_bytes desc) source.palette.now)

-- row r of a target as a raw frame of one row
abbrev pub target_row : Desc → ℕ → List (List ℕ) → List ℕ → ℕ → List ℕ
target_row desc width planes strides r = row_frame (rows_at planes strides (row_sizes desc width) r) []

-- whether no row of plane p reaches into the next, and its bytes reach to the end of the last row
abbrev pub holds_plane : List (List ℕ) → List ℕ → List ℕ → ℕ → ℕ → Bool
holds_plane planes strides sizes rows p =
    let stride = slice_index strides p in
    let size = slice_index sizes p in
    nat_le size stride && nat_le ((rows - 1) * stride + size) (length (row_at planes p))

-- whether four planes hold their rows
abbrev pub hold_rows : List (List ℕ) → List ℕ → List ℕ → ℕ → Bool
hold_rows planes strides sizes rows =
    let holds = holds_plane planes strides sizes rows in (holds 0 && holds 1) && (holds 2 && holds 3)

-- whether rows can be converted from planes to planes, or the first fault
unfoldable pub planes_asked : Pair → Rows → Planes → List ℕ → List (List ℕ) → List ℕ → Result Unit Refusal
planes_asked pair rows source source_strides target target_strides =
    let from = pair.from.desc in
    let holds = hold_rows (rows_of source) source_strides (row_sizes from rows.width) rows.count in
    if not (are_rows rows) then Err refusal.Size else (
    if not (holds && nat_le (palette_bytes from) (length source.palette.now)) then Err refusal.InputLength else (
    if not (hold_rows target target_strides (row_sizes pair.to.desc rows.width) rows.count) then Err refusal.OutputLength else Ok tt))

-- byte i lies in none of the first rows of a plane
abbrev pub IsBetweenRows : ℕ → ℕ → ℕ → ℕ → Type 0
IsBetweenRows stride size rows i = (r : ℕ) → r < rows → (i < r * stride) ⊎ (r * stride + size ≤ i)

-- The first rows of a target are those of the pair, and the bytes between them are as before.
pub record AreRowsConverted (pair : Pair) (rows : Rows) (source : Planes) (source_strides strides : List ℕ) (old new : List (List ℕ))
    (done : ℕ) : Type 0 where
  pub lengths : (p : ℕ) → p < 4 → length (row_at new p) ≡ length (row_at old p)
  pub targets : (r : ℕ) → r < done → target_row pair.to.desc rows.width new strides r
      ≡ target_rows pair rows.width 1 (rows.first + r) (source_row pair.from.desc rows.width source source_strides r)
  pub gaps : (p i : ℕ) → p < 4 → IsBetweenRows (slice_index strides p) (slice_index (row_sizes pair.to.desc rows.width) p) done i
      → slice_index (row_at new p) i ≡ slice_index (row_at old p) i
