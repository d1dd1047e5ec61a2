-- What holds of all elements of a row, or of two or three rows at the same places.
use Rattle.std.specs.Prelude.{ℕ, ◌<◌, List, length, slice_index_or}

-- each element of the row
abbrev pub ForEach : {A : Type 0} → (A → Type 0) → List A → Type 0
ForEach {A} R xs = (i : ℕ) (x : A) → i < length xs → R (slice_index_or xs i x)

-- each element of the first row, and the one of the second at its place
abbrev pub ForPairs : {A B : Type 0} → (A → B → Type 0) → List A → List B → Type 0
ForPairs {A} {B} R xs ys = (i : ℕ) (x : A) (y : B) → i < length xs → R (slice_index_or xs i x) (slice_index_or ys i y)

-- each element of the first row, and those of the second and the third at its place
abbrev pub ForTriples : {A B C : Type 0} → (A → B → C → Type 0) → List A → List B → List C → Type 0
ForTriples {A} {B} {C} R xs ys zs =
    (i : ℕ) (x : A) (y : B) (z : C) → i < length xs → R (slice_index_or xs i x) (slice_index_or ys i y) (slice_index_or zs i z)
