-- The cells of a cache, and what a note knows of one.
use Rattle.std.specs.Prelude.{◌≡◌, ℕ, ◌<◌, List, length, map, slice_index, Option, IfSome, IsSomeAnd}
use Rattle.std.specs.declared.option.Option.TheVariants.{Some}
use Rattle.pix_meaning.specs.declared.pair.Pair.{Pair}
use Rattle.row_plan.specs.declared.plans.Plan.{Plan}
use Rattle.list_cache.specs.declared.cache.ListCache.{ListCache}
use Rattle.list_cache.specs.declared.cell_note.CellNote.{CellNote}
use Rattle.once_cell.specs.Once.{cell_name}

-- Contracts tell cells by numbers: those of a cache, in order
abbrev pub cell_numbers : ListCache → List ℕ
cell_numbers cache = map cell_name cache.cells.items

-- the number of the cell that a note belongs to
abbrev pub cell_of : CellNote → ℕ
cell_of note = note.note.cell

-- the plan that it knows, if it knows one
abbrev pub known : CellNote → Option Plan
known note = note.note.known

-- The note is of cell k.
pub record IsNoteOf (cache : ListCache) (k : ℕ) (note : CellNote) : Type 0 where
  pub inside : k < length (cell_numbers cache)
  pub cell : cell_of note ≡ slice_index (cell_numbers cache) k

-- A note that knew a plan still knows that one.
abbrev pub StillKnows : Option Plan → Option Plan → Type 0
StillKnows old new = IfSome old (λ plan. new ≡ Some plan)

-- The plan that a note knows is of this pair.
abbrev pub KnowsPair : Option Plan → Pair → Type 0
KnowsPair known pair = IsSomeAnd known (λ plan. plan.pair ≡ pair)

-- A plan is of this pair, and has this stamp.
pub record IsPlanOf (pair : Pair) (stamp : ℕ) (plan : Plan) : Type 0 where
  pub for_pair : plan.pair ≡ pair
  pub stamped : plan.stamp ≡ stamp

-- The plan that a note knows is such a one.
abbrev pub KnowsPlan : Option Plan → Pair → ℕ → Type 0
KnowsPlan known pair stamp = IsSomeAnd known (IsPlanOf pair stamp)

-- One plan in a cell: where both know one, it is of one pair and has one stamp.
pub record HaveOnePlan (a b : Plan) : Type 0 where
  pub pair : a.pair ≡ b.pair
  pub stamp : a.stamp ≡ b.stamp

abbrev pub AgreesOnPlan : Option Plan → Option Plan → Type 0
AgreesOnPlan a b = IfSome a (λ x. IfSome b (HaveOnePlan x))
