-- A block: 64 pixels of a row. Value v of pixel i is at 64 v + i.
use Rattle.std.specs.Prelude.{◌≡◌, ◌≢◌, ℕ, zero, suc, ◌+◌, ◌*◌, ◌<◌, ◌≤◌, List, slice_index, slice_index_or}
use Rattle.op_list.specs.declared.position.PixelPosition.{PixelPosition}

-- the position of pixel i of a block that begins at this position
abbrev pub pixel_at : PixelPosition → ℕ → PixelPosition
pixel_at position i = record { width = position.width; rows = position.rows; x = position.x + i; row = position.row; y = position.y }

-- value v of the first n pixels is what is given, for the values below `count`
abbrev pub Holds : {W : Type 0} → (W → ℕ) → List W → ℕ → ℕ → (ℕ → ℕ → ℕ) → Type 0
Holds {W} number block count n given = (v i : ℕ) (d : W) → v < count → i < n → number (slice_index_or block (64 * v + i) d) ≡ given v i

-- the values below `count` of all 64 pixels are below a limit
abbrev pub AreBelow : {W : Type 0} → (W → ℕ) → List W → ℕ → ℕ → Type 0
AreBelow {W} number block count limit = (v i : ℕ) (d : W) → v < count → i < 64 → number (slice_index_or block (64 * v + i) d) < limit

-- n pixels, at most a block of them, from a position on in a frame of one row
pub record IsInRow (position : PixelPosition) (n : ℕ) : Type 0 where
  pub rows : position.rows ≡ 1
  pub row : position.row ≡ 0
  pub some : 0 < n
  pub few : n ≤ 64
  pub within : position.x + n ≤ position.width

-- a pixel of another row
pub record IsOtherRow (across down at : ℕ) (other : PixelPosition) : Type 0 where
  pub width : other.width ≡ across
  pub rows : other.rows ≡ down
  pub column : other.x < other.width
  pub row : other.row < other.rows
  pub differs : other.row ≢ at

-- a position of a row
abbrev pub position_at : ℕ → ℕ → ℕ → ℕ → ℕ → PixelPosition
position_at width rows row y x = record { width = width; rows = rows; x = x; row = row; y = y }

-- the byte of value v in an entry of a palette: blue, green, red and alpha stand in this order
abbrev pub colour_byte : ℕ → ℕ
colour_byte zero = 2
colour_byte (suc zero) = 1
colour_byte (suc (suc zero)) = 0
colour_byte (suc (suc (suc v))) = suc (suc (suc v))

-- a byte of the entry of the index that stands at `at`
abbrev pub colour_in : List ℕ → List ℕ → ℕ → ℕ → ℕ
colour_in indices palette at byte = slice_index palette (4 * slice_index indices at + byte)
