-- Steps of a list, of which each is an operation or none.
use Rattle.std.specs.Prelude.{Bool, if◌then◌else◌, List, [], ◌∷◌, Option, Some, None}
use Rattle.op_list.specs.declared.op.Op.{Op}

-- a step that is there where there is need of it
abbrev pub step_if : Bool → Op → Option Op
step_if needed op = if needed then Some op else None

-- the operations of some steps
abbrev pub operations : List (Option Op) → List Op
operations [] = []
operations (None ∷ steps) = operations steps
operations (Some op ∷ steps) = op ∷ operations steps
