-- A change of a list: some operations are taken at a place, and at most one is given in their stead.
use Rattle.std.specs.Prelude.{ℕ, List, [], ◌∷◌, drop, Option, Some, None}
use Rattle.std.specs.Option.{option_map}
use Rattle.op_list.specs.declared.types.Stage.{Stage}
use Rattle.op_list.specs.declared.op.Op.{Op}
use Rattle.op_list.specs.Typing.{stage_after}
use Rattle.op_range.specs.declared.range.ValueRange.{ValueRange}
use Rattle.op_range.specs.Ranges.{ranges_after}
use Rattle.op_opt.specs.declared.change.Change.{Change}
use Rattle.op_opt.specs.declared.place.Place.{Place}
use Rattle.op_opt.specs.OfFour.{or_else}

-- a pass at a place: what it changes, from the stage and the ranges there and the operations from there on
abbrev pub Rule : Type 0
Rule = Stage → List ValueRange → List Op → Option Change

abbrev pub taking : ℕ → Option Op → Option Change
taking n op = Some (record { taken = n; given = op })

-- the operation that is given, before the rest
abbrev pub with_given : Option Op → List Op → List Op
with_given None rest = rest
with_given (Some op) rest = op ∷ rest

abbrev pub changed : List Op → Change → List Op
changed ops change = with_given change.given (drop change.taken ops)

-- the list after a pass at the first place where it applies
unfoldable pub first_place : Rule → Stage → List ValueRange → List Op → Option (List Op)
first_place rule stage ranges [] = None
first_place rule stage ranges (op ∷ ops) =
    or_else (option_map (λ change. changed (op ∷ ops) change) (rule stage ranges (op ∷ ops)))
    (option_map (λ rest. op ∷ rest) (first_place rule (stage_after stage op) (ranges_after stage op ranges) ops))

-- the places behind each of some operations
unfoldable pub places_after : Stage → List Op → List ValueRange → List Place
places_after stage [] here = []
places_after stage (op ∷ ops) here =
    let next = ranges_after stage op here in record { ranges = next } ∷ places_after (stage_after stage op) ops next
