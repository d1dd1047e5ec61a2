-- The walk of a list: by its parts, with an operation more, and with a part replaced.
use Rattle.std.specs.Prelude.{◌≡◌, ◌≤◌, ℕ, ◌+◌, true, false, ◌&&◌, List, [], ◌∷◌, ◌++◌, length, Some}
use Rattle.std.specs.Option.{option_and_then}
use Rattle.op_list.specs.declared.types.Stage.{Stage}
use Rattle.op_list.specs.declared.position.PixelPosition.{PixelPosition}
use Rattle.op_list.specs.declared.op.Op.{Op}
use Rattle.op_list.specs.declared.values.Values.{Values}
use Rattle.op_list.specs.Typing.{may_follow, are_good, stage_after, stage_from, are_typed, is_write, ends_with_write}
use Rattle.op_list.specs.Apply.{apply}
use Rattle.op_list.specs.Checked.{checked_apply}
use Rattle.op_list.specs.Run.{run_from, checked_run_from}

-- What two parts, one behind the other, are as one list: the second part goes on where the first one ends.
pub record WalksInParts (front rest : List Op) : Type 0 where
  pub typed : (stage : Stage) → are_typed stage (front ++ rest) ≡ (are_typed stage front && are_typed (stage_from stage front) rest)
  pub leaves : (stage : Stage) → stage_from stage (front ++ rest) ≡ stage_from (stage_from stage front) rest
  pub size : length (front ++ rest) ≡ length front + length rest
  pub run : (frame : List ℕ) (position : PixelPosition) (stage : Stage) (values : Values)
      → run_from frame position stage (front ++ rest) values
      ≡ run_from frame position (stage_from stage front) rest (run_from frame position stage front values)
  pub checked : (frame : List ℕ) (position : PixelPosition) (stage : Stage) (values : Values)
      → checked_run_from frame position stage (front ++ rest) values
      ≡ option_and_then (λ next. checked_run_from frame position (stage_from stage front) rest next)
      (checked_run_from frame position stage front values)

-- What a list is with one operation more at its end.
pub record AppendsOperation (ops : List Op) (op : Op) : Type 0 where
  pub typed : (stage : Stage) → are_typed stage (ops ++ op ∷ [])
      ≡ (are_typed stage ops && (may_follow (stage_from stage ops) op && are_good (stage_from stage ops) op))
  pub leaves : (stage : Stage) → stage_from stage (ops ++ op ∷ []) ≡ stage_after (stage_from stage ops) op
  pub size : length (ops ++ op ∷ []) ≡ length ops + 1
  pub run : (frame : List ℕ) (position : PixelPosition) (stage : Stage) (values : Values)
      → run_from frame position stage (ops ++ op ∷ []) values
      ≡ apply frame position (stage_from stage ops) op (run_from frame position stage ops values)
  pub checked : (frame : List ℕ) (position : PixelPosition) (stage : Stage) (values : Values)
      → checked_run_from frame position stage (ops ++ op ∷ []) values
      ≡ option_and_then (λ next. checked_apply frame position (stage_from stage ops) op next)
      (checked_run_from frame position stage ops values)

-- Operations that may stand for others at a stage: they are typed where the others are, leave the same, and are no more.
pub record MayReplace (stage : Stage) (old new : List Op) : Type 0 where
  pub typed : are_typed stage old ≡ true → are_typed stage new ≡ true
  pub leaves : stage_from stage new ≡ stage_from stage old
  pub size : length new ≤ length old

-- What a list is where some of its operations are replaced by others that may stand for them.
pub record ReplacesPart (stage : Stage) (front old new rest : List Op) : Type 0 where
  pub typed : are_typed stage (front ++ (old ++ rest)) ≡ true → are_typed stage (front ++ (new ++ rest)) ≡ true
  pub leaves : stage_from stage (front ++ (new ++ rest)) ≡ stage_from stage (front ++ (old ++ rest))
  pub size : length (front ++ (new ++ rest)) ≤ length (front ++ (old ++ rest))

-- Two lists behind one front run alike where they do on the values that the front leaves.
pub record RunsAlike (frame : List ℕ) (position : PixelPosition) (stage : Stage) (front before after : List Op)
    (values : Values) : Type 0 where
  pub run : (let there = stage_from stage front in let left = run_from frame position stage front values in
      run_from frame position there after left ≡ run_from frame position there before left)
      → run_from frame position stage (front ++ after) values ≡ run_from frame position stage (front ++ before) values
  pub checked : ((left : Values) → checked_run_from frame position stage front values ≡ Some left
      → checked_run_from frame position (stage_from stage front) after left
      ≡ checked_run_from frame position (stage_from stage front) before left)
      → checked_run_from frame position stage (front ++ after) values ≡ checked_run_from frame position stage (front ++ before) values

-- ---- the laws
abbrev pub EveryListWalksInParts : Type 0
EveryListWalksInParts = (front rest : List Op) → WalksInParts front rest

abbrev pub EveryListAppends : Type 0
EveryListAppends = (ops : List Op) (op : Op) → AppendsOperation ops op

abbrev pub EveryPartIsReplaced : Type 0
EveryPartIsReplaced =
    (stage : Stage) (front old new rest : List Op) → MayReplace (stage_from stage front) old new → ReplacesPart stage front old new rest

abbrev pub EveryFrontRunsAlike : Type 0
EveryFrontRunsAlike = (frame : List ℕ) (position : PixelPosition) (stage : Stage) (front before after : List Op) (values : Values)
    → RunsAlike frame position stage front before after values

-- a list ends with a Write where its rest does
abbrev pub EndsAsItsRest : Type 0
EndsAsItsRest = (front : List Op) (op : Op) (rest : List Op) → ends_with_write (front ++ op ∷ rest) ≡ ends_with_write (op ∷ rest)

-- no operation follows a Write
abbrev pub NothingFollowsWrite : Type 0
NothingFollowsWrite = (stage : Stage) (op next : Op) (rest : List Op) → are_typed stage (op ∷ next ∷ rest) ≡ true → is_write op ≡ false
