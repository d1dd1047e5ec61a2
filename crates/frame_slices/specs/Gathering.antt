-- What the jobs of slices made, gathered in their order.
use Rattle.std.specs.Prelude.{◌≡◌, ℕ, List, length, slice_get, Option, Some}
use Rattle.frame_slices.specs.declared.frame_slice.Place.{Place}
use Rattle.frame_slices.specs.declared.handed.TargetRows.{TargetRows}
use Rattle.frame_slices.specs.declared.awaited.Converted.{Converted}
use Rattle.frame_slices.specs.declared.awaited.AwaitedSlice.{AwaitedSlice}
use Rattle.frame_slices.specs.Handing.{Token}

-- where target rows lie, and their bytes
abbrev pub place_made : TargetRows → Place
place_made rows = rows.place

abbrev pub bytes_made : TargetRows → List ℕ
bytes_made rows = rows.bytes.items

-- what a job made and what shows its slice are of the same cell
abbrev pub AreOfSameCells : List AwaitedSlice → List (Option Token) → Type 0
AreOfSameCells jobs tokens = (k : ℕ) (job : AwaitedSlice) (converted : Converted) (token : Token)
    → slice_get jobs k ≡ Some job → job.converted ≡ Some converted → slice_get tokens k ≡ Some (Some token)
    → token.of ≡ converted.token.of

-- rows that a job made of the slice which a token shows
pub record IsGathered (job : AwaitedSlice) (token : Option (Option Token)) (rows : TargetRows) : Type 0 where
  pub converted : Converted
  pub shown : Token
  pub made : job.converted ≡ Some converted
  pub shows : token ≡ Some (Some shown)
  pub same : shown.value ≡ converted.token.value
  pub rows_are : rows ≡ converted.rows

-- of each job its rows
pub record AreGathered (jobs : List AwaitedSlice) (tokens : List (Option Token)) (rows : List TargetRows) : Type 0 where
  pub count : length rows ≡ length jobs
  pub each : (k : ℕ) (job : AwaitedSlice) (made : TargetRows) → slice_get jobs k ≡ Some job → slice_get rows k ≡ Some made
      → IsGathered job (slice_get tokens k) made
