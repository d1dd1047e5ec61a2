-- A row of planes, as one step of a conversion.
use Rattle.std.specs.Prelude.{◌≡◌, ◌≤◌, ℕ, ◌+◌, ◌*◌, List, length, take, drop, slice_index}
use Rattle.kernel_planes.specs.Planes.{row_at}

-- Row r of each plane lies in its bytes.
pub record HoldRow (planes : List (List ℕ)) (strides sizes : List ℕ) (r : ℕ) : Type 0 where
  pub first : r * slice_index strides 0 + slice_index sizes 0 ≤ length (row_at planes 0)
  pub second : r * slice_index strides 1 + slice_index sizes 1 ≤ length (row_at planes 1)
  pub third : r * slice_index strides 2 + slice_index sizes 2 ≤ length (row_at planes 2)
  pub fourth : r * slice_index strides 3 + slice_index sizes 3 ≤ length (row_at planes 3)

-- No byte of a plane is changed but in row r.
pub record IsRowPut (old new : List ℕ) (stride size r : ℕ) : Type 0 where
  pub same : length new ≡ length old
  pub front : take (r * stride) new ≡ take (r * stride) old
  pub behind : drop (r * stride + size) new ≡ drop (r * stride + size) old

-- No byte of four planes is changed but in row r.
pub record AreRowsPut (old new : List (List ℕ)) (strides sizes : List ℕ) (r : ℕ) : Type 0 where
  pub first : IsRowPut (row_at old 0) (row_at new 0) (slice_index strides 0) (slice_index sizes 0) r
  pub second : IsRowPut (row_at old 1) (row_at new 1) (slice_index strides 1) (slice_index sizes 1) r
  pub third : IsRowPut (row_at old 2) (row_at new 2) (slice_index strides 2) (slice_index sizes 2) r
  pub fourth : IsRowPut (row_at old 3) (row_at new 3) (slice_index strides 3) (slice_index sizes 3) r
