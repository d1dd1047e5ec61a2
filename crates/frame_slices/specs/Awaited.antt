-- The job of a slice that is handed over in a cell: all that a worker leaves as it was given, and when it is done.
use Rattle.std.specs.Prelude.{◌≡◌, ℕ, List, [], ◌∷◌, Option, None, Some, IfSome}
use Rattle.pix_meaning.specs.declared.pair.Pair.{Pair}
use Rattle.pix_meaning.specs.Target.{target_rows}
use Rattle.row_plan.specs.Jobs.{pair_before}
use Rattle.frame_slices.specs.declared.frame_slice.Place.{Place}
use Rattle.frame_slices.specs.declared.handed.Handed.{Handed}
use Rattle.frame_slices.specs.declared.awaited.Converted.{Converted}
use Rattle.frame_slices.specs.declared.awaited.AwaitedSlice.{AwaitedSlice}

-- the place and the target rows of the slice that a cell holds
abbrev pub AreTargetRows : Pair → Option Handed → Place → List ℕ → Type 0
AreTargetRows pair None place bytes = ⊥
AreTargetRows pair (Some handed) place bytes =
    (place ≡ handed.place)
    × (bytes ≡ target_rows pair handed.place.width handed.place.rows handed.place.first handed.input.items)

-- made for a pair of the slice that the cell of this name holds
abbrev pub IsMadeFrom : Pair → ℕ → Converted → Type 0
IsMadeFrom pair name converted =
    (converted.token.of ≡ name) × AreTargetRows pair converted.token.value converted.rows.place converted.rows.bytes.items

abbrev pub awaited_number : AwaitedSlice → ℕ
awaited_number job = job.number

-- the pair of its plan, and the name of its cell
abbrev pub awaited_origin : AwaitedSlice → List ℕ
awaited_origin job = pair_before job.plan.now.pair (job.cell.now.id ∷ [])

-- what it made, if anything, was made of the slice that its cell holds
abbrev pub IsConvertedSlice : AwaitedSlice → Type 0
IsConvertedSlice job = IfSome job.converted (IsMadeFrom job.plan.now.pair job.cell.now.id)
