-- The matrices (q, r, b): of q parts of luma r are red, b are blue, and the rest is green.
-- In the words of ITU-T H.273 section 8.3 K_R = r/q and K_B = b/q.
use Rattle.std.specs.Prelude.{ℕ, ◌+◌, ◌<◌, ◌≤◌, List, if◌then◌else◌, Option, Some, None, codes}
use Rattle.std.specs.Str.{bytes_eq}
use Rattle.colour_matrix.specs.declared.matrix.Matrix.{Matrix}

-- red, blue and green have each a part in luma, and there are at most 2^24 parts
pub record IsMatrix (m : Matrix) : Type 0 where
  pub red : 1 ≤ m.r
  pub blue : 1 ≤ m.b
  pub green : m.r + m.b < m.q
  pub parts : m.q ≤ 16777216

-- the matrix of three numbers of parts
abbrev pub of_parts : ℕ → ℕ → ℕ → Matrix
of_parts q r b = record { q = q; r = r; b = b }

-- K_R = 0.299 and K_B = 0.114 (ITU-T H.273 table 4, MatrixCoefficients 5 and 6)
abbrev pub bt601 : Matrix
bt601 = of_parts 1000 299 114

-- K_R = 0.2126 and K_B = 0.0722 (MatrixCoefficients 1)
abbrev pub bt709 : Matrix
bt709 = of_parts 10000 2126 722

-- K_R = 0.2627 and K_B = 0.0593 (MatrixCoefficients 9)
abbrev pub bt2020 : Matrix
bt2020 = of_parts 10000 2627 593

-- K_R = 0.212 and K_B = 0.087 (MatrixCoefficients 7)
abbrev pub smpte240m : Matrix
smpte240m = of_parts 1000 212 87

-- K_R = 0.30 and K_B = 0.11 (MatrixCoefficients 4)
abbrev pub fcc : Matrix
fcc = of_parts 100 30 11

-- the matrix of a name, and none for any other name
abbrev pub matrix_named : List ℕ → Option Matrix
matrix_named name =
    if bytes_eq name (codes "bt601") then Some bt601 else (
    if bytes_eq name (codes "bt709") then Some bt709 else (
    if bytes_eq name (codes "bt2020") then Some bt2020 else (
    if bytes_eq name (codes "smpte240m") then Some smpte240m else (
    if bytes_eq name (codes "fcc") then Some fcc else None))))
