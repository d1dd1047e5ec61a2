-- The rows of the planes of a format.
use Rattle.std.specs.Prelude.{◌≡◌, ◌<◌, ℕ, if◌then◌else◌, List, length}
use Rattle.pix_desc.specs.declared.desc.Desc.{Desc}
use Rattle.pix_desc.specs.Frame.{row_length}
use Rattle.kernel_planes.specs.Planes.{row_at}

-- each row has the bytes of its plane, and none where the format has no such plane
abbrev pub AreRowsOf : Desc → ℕ → List (List ℕ) → Type 0
AreRowsOf desc width rows = (p : ℕ) → p < 4 → length (row_at rows p) ≡ row_length desc width p

-- the bytes of the entries of a palette
abbrev pub palette_bytes : Desc → ℕ
palette_bytes desc = if desc.palette then 1024 else 0
