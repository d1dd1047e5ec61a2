-- The answer for a list: for each operation, the range of each value after it, and whether what follows uses the value.
use Rattle.std.specs.Prelude.{◌≡◌, ◌<◌, ℕ, Bool, List, [], ◌∷◌, All, map}
use Rattle.op_list.specs.declared.types.Stage.{Stage}
use Rattle.op_list.specs.declared.types.Stage.TheVariants.{Start}
use Rattle.op_list.specs.declared.position.PixelPosition.{PixelPosition}
use Rattle.op_list.specs.declared.op.Op.{Op}
use Rattle.op_list.specs.declared.values.Values.{Values}
use Rattle.op_list.specs.Typing.{stage_after}
use Rattle.op_list.specs.Values.{four, no_values}
use Rattle.op_list.specs.Apply.{apply}
use Rattle.op_list.specs.Run.{run_from}
use Rattle.op_range.specs.declared.range.ValueRange.{ValueRange}
use Rattle.op_range.specs.declared.state.CompRange.{CompRange}
use Rattle.op_range.specs.declared.state.StateRange.{StateRange}
use Rattle.op_range.specs.Used.{is_used, used_from, Agree}
use Rattle.op_range.specs.Ranges.{range, range_in, ranges_after, start_ranges}
use Rattle.op_range.specs.Within.{FirstAreWithin, value_count}

abbrev pub comp_range : ValueRange → Bool → CompRange
comp_range r is_used_after = record { least = r.least; greatest = r.greatest; whole = r.whole; used = is_used_after }

abbrev pub state_of : List ValueRange → List Bool → StateRange
state_of ranges used = record { comps = four (λ i. comp_range (range_in ranges i) (is_used used i)) }

-- the states after each of some operations
unfoldable pub states_from : Stage → List Op → List ValueRange → List StateRange
states_from stage [] ranges = []
states_from stage (op ∷ ops) ranges =
    let after = ranges_after stage op ranges in
    state_of after (used_from ops) ∷ states_from (stage_after stage op) ops after

abbrev pub states_of : List Op → List StateRange
states_of ops = states_from Start ops start_ranges

-- ---- what the answer says
abbrev pub range_of : CompRange → ValueRange
range_of comp = range comp.least comp.greatest comp.whole

abbrev pub ranges_of : StateRange → List ValueRange
ranges_of state = map range_of state.comps

abbrev pub used_of : StateRange → List Bool
used_of state = map (λ comp. comp.used) state.comps

-- any values that agree with these in the used ones give the same elements; after a Write these are given already
abbrev pub OthersAreFree : List ℕ → PixelPosition → Stage → List Op → List Bool → Values → Type 0
OthersAreFree frame position stage [] used values = Unit {0}
OthersAreFree frame position stage (op ∷ ops) used values =
    (other : Values) → Agree used values other
    → run_from frame position stage (op ∷ ops) other ≡ run_from frame position stage (op ∷ ops) values

-- along some operations each state holds the values after its operation, and what it does not call used is free
abbrev pub EnclosesRun : List ℕ → PixelPosition → Stage → List Op → Values → List StateRange → Type 0
EnclosesRun frame position stage [] values states = states ≡ []
EnclosesRun frame position stage (op ∷ ops) values [] = ⊥
EnclosesRun frame position stage (op ∷ ops) values (state ∷ states) =
    let after = apply frame position stage op values in
    let next = stage_after stage op in
    FirstAreWithin (value_count op) (ranges_of state) after × OthersAreFree frame position next ops (used_of state) after
    × EnclosesRun frame position next ops after states

-- the states enclose the list at every pixel of every frame of bytes
abbrev pub Encloses : List StateRange → List Op → Type 0
Encloses states ops = (frame : List ℕ) (position : PixelPosition) → All (λ byte. byte < 256) frame
    → EnclosesRun frame position Start ops no_values states
