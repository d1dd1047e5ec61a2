-- What the definitions keep: the laws that the functions of src/laws.rt prove.
use Rattle.std.specs.Prelude.{◌≡◌, ◌<◌, ℕ, true, false, List, All}
use Rattle.op_list.specs.declared.types.Stage.{Stage}
use Rattle.op_list.specs.declared.types.Stage.TheVariants.{Start}
use Rattle.op_list.specs.declared.position.PixelPosition.{PixelPosition}
use Rattle.op_list.specs.declared.op.Op.{Op}
use Rattle.op_list.specs.declared.values.Values.{Values}
use Rattle.op_list.specs.Typing.{may_follow, are_good, stage_after, are_typed, ends_with_write, is_write}
use Rattle.op_list.specs.Run.{run_from}
use Rattle.op_list.specs.Types.{is_rational}
use Rattle.op_list.specs.Values.{are_fractions}
use Rattle.op_list.specs.Apply.{apply}
use Rattle.op_range.specs.declared.range.ValueRange.{ValueRange}
use Rattle.op_range.specs.Ranges.{ranges_after}
use Rattle.op_range.specs.Within.{FirstAreWithin, AreWithin, value_count, AreSmall}
use Rattle.op_range.specs.Used.{used_from, Agree}
use Rattle.op_range.specs.States.{states_of, Encloses}

-- values that agree in the used ones give the same elements
abbrev pub UnusedIsFree : Type 0
UnusedIsFree = (frame : List ℕ) (position : PixelPosition) (stage : Stage) (ops : List Op) (v w : Values)
    → are_typed stage ops ≡ true → ends_with_write ops ≡ true → Agree (used_from ops) v w
    → run_from frame position stage ops v ≡ run_from frame position stage ops w

-- an operation may stand at a stage, with values of its kind and a frame of bytes
pub record MayStand (frame : List ℕ) (stage : Stage) (op : Op) (values : Values) : Type 0 where
  pub bytes : All (λ byte. byte < 256) frame
  pub follows : may_follow stage op ≡ true
  pub good : are_good stage op ≡ true
  pub kind : are_fractions values ≡ is_rational stage

-- the ranges before an operation enclose the values, so those after it enclose the values that it leaves
abbrev pub RangesEnclose : Type 0
RangesEnclose = (frame : List ℕ) (position : PixelPosition) (stage : Stage) (op : Op) (ranges : List ValueRange) (values : Values)
    → MayStand frame stage op values → AreWithin ranges values
    → FirstAreWithin (value_count op) (ranges_after stage op ranges) (apply frame position stage op values)

-- numbers that have the bits of their type keep to it, under each operation but Write
abbrev pub NumbersStaySmall : Type 0
NumbersStaySmall = (frame : List ℕ) (position : PixelPosition) (stage : Stage) (op : Op) (values : Values)
    → MayStand frame stage op values → is_write op ≡ false → AreSmall stage values
    → AreSmall (stage_after stage op) (apply frame position stage op values)

-- the states of a whole list enclose it
abbrev pub StatesEnclose : Type 0
StatesEnclose = (ops : List Op) → are_typed Start ops ≡ true → ends_with_write ops ≡ true → Encloses (states_of ops) ops
