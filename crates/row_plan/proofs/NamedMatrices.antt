-- The matrices that have names are the five that the classes list, and each of them is a matrix.
use Rattle.std.proofs.Common.{◌≡◌, ℕ, ◌+◌, ◌<◌, ◌≤◌, Bool, true, false, if◌then◌else◌, inl, inr, List, refl, subst, arith}
use Rattle.std.specs.Prelude.{Option, Some, codes}
use Rattle.std.specs.Str.{bytes_eq}
use Rattle.std.proofs.lemmas.Option.{none-some, same_Some}
use Rattle.colour_matrix.specs.declared.matrix.Matrix.{Matrix}
use Rattle.colour_matrix.specs.Matrix.{IsMatrix, of_parts, bt601, bt709, bt2020, smpte240m, fcc, matrix_named}
use Rattle.op_build.specs.SideClasses.{named_matrices, IsOneOf}
use Rattle.row_plan.specs.Evaluated.{IsNamed}

-- what is true of the first answer, and of one of those behind it
answered : (P : Matrix → Type 0) (test : Bool) (first matrix : Matrix) (others : Option Matrix) → P first
    → (others ≡ Some matrix → P matrix)
    → (if test then Some first else others) ≡ Some matrix → P matrix
answered P true first matrix others holds behind same = subst P (same_Some first matrix same) holds
answered P false first matrix others holds behind same = behind same

-- what is true of each of the five is true of a matrix that has a name
of_each_named : (P : Matrix → Type 0) → P bt601 → P bt709 → P bt2020 → P smpte240m → P fcc
    → (matrix : Matrix) (name : List ℕ) → matrix_named name ≡ Some matrix → P matrix
of_each_named P first second third fourth fifth matrix name =
    answered P (bytes_eq name (codes "bt601")) _ matrix _ first (
    answered P (bytes_eq name (codes "bt709")) _ matrix _ second (
    answered P (bytes_eq name (codes "bt2020")) _ matrix _ third (
    answered P (bytes_eq name (codes "smpte240m")) _ matrix _ fourth (
    answered P (bytes_eq name (codes "fcc")) _ matrix _ fifth (λ none. absurd (none-some matrix none))))))

pub listed_matrix : (matrix : Matrix) → IsNamed matrix → IsOneOf matrix named_matrices
listed_matrix matrix named =
    of_each_named (λ m. IsOneOf m named_matrices) (inl refl) (inr (inl refl)) (inr (inr (inl refl))) (inr (inr (inr (inl refl))))
    (inr (inr (inr (inr (inl refl)))))
    matrix named.name named.found

-- the bounds of a matrix of three numbers
matrix_of : (q r b : ℕ) → 1 ≤ r → 1 ≤ b → r + b < q → q ≤ 16777216 → IsMatrix (of_parts q r b)
matrix_of q r b red blue green parts = record { red = red; blue = blue; green = green; parts = parts }

pub named_is_matrix : (matrix : Matrix) → IsNamed matrix → IsMatrix matrix
named_is_matrix matrix named =
    of_each_named IsMatrix
    (matrix_of 1000 299 114 (omega arith) (omega arith) (omega arith) (omega arith))
    (matrix_of 10000 2126 722 (omega arith) (omega arith) (omega arith) (omega arith))
    (matrix_of 10000 2627 593 (omega arith) (omega arith) (omega arith) (omega arith))
    (matrix_of 1000 212 87 (omega arith) (omega arith) (omega arith) (omega arith))
    (matrix_of 100 30 11 (omega arith) (omega arith) (omega arith) (omega arith))
    matrix named.name named.found

-- the matrix of the run
pub bt601_is_named : IsNamed bt601
bt601_is_named = record { name = codes "bt601"; found = refl }
