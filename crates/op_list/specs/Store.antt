-- What storing the elements of a pixel keeps, and that elements determine a frame.
use Rattle.std.specs.Prelude.{◌≡◌, ◌≢◌, ◌<◌, ℕ, ◌+◌, ◌*◌, true, List, length, sum, All}
use Rattle.op_list.specs.declared.types.PixType.{PixType}
use Rattle.op_list.specs.declared.position.PixelPosition.{PixelPosition}
use Rattle.op_list.specs.Types.{bytes, is_whole_type}
use Rattle.op_list.specs.Pixel.{element_of, pixel_number}

-- another pixel of the same frame
pub record IsOtherPixel (position other : PixelPosition) : Type 0 where
  pub width : other.width ≡ position.width
  pub rows : other.rows ≡ position.rows
  pub column : other.x < other.width
  pub row : other.row < other.rows
  pub differs : pixel_number other ≢ pixel_number position

-- two frames have the same elements at the first n pixels, counted row by row
abbrev pub HaveSameElements : PixType → List ℕ → ℕ → ℕ → ℕ → List ℕ → List ℕ → Type 0
HaveSameElements elem planes width rows n a b =
    (x row y i : ℕ) → x < width → row < rows → row * width + x < n
    → element_of elem planes a (record { width = width; rows = rows; x = x; row = row; y = y }) i
    ≡ element_of elem planes b (record { width = width; rows = rows; x = x; row = row; y = y }) i

-- elements determine a frame of bytes
abbrev pub ElementsMakeFrame : Type 0
ElementsMakeFrame = (elem : PixType) (planes : List ℕ) (width rows : ℕ) (a b : List ℕ) → is_whole_type elem ≡ true
    → length a ≡ width * rows * sum planes * bytes elem → length b ≡ width * rows * sum planes * bytes elem
    → All (λ byte. byte < 256) a → All (λ byte. byte < 256) b
    → HaveSameElements elem planes width rows (width * rows) a b → a ≡ b
