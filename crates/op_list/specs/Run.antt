-- The meaning of a list: its operations one after the other, from the elements of a pixel to those that are written.
use Rattle.std.specs.Prelude.{◌≡◌, ◌<◌, true, length, ℕ, List, [], ◌∷◌, Option, Some}
use Rattle.std.specs.Option.{option_map, option_and_then}
use Rattle.op_list.specs.declared.types.Stage.{Stage}
use Rattle.op_list.specs.declared.types.Stage.TheVariants.{Start}
use Rattle.op_list.specs.declared.position.PixelPosition.{PixelPosition}
use Rattle.op_list.specs.declared.op.Op.{Op}
use Rattle.op_list.specs.declared.values.Values.{Values}
use Rattle.op_list.specs.Values.{four, number, no_values, are_fractions}
use Rattle.op_list.specs.Types.{is_start, is_rational}
use Rattle.op_list.specs.Typing.{may_follow, are_good, stage_after, are_typed}
use Rattle.op_list.specs.Apply.{apply}
use Rattle.op_list.specs.Checked.{checked_apply}
use Rattle.op_list.specs.Pixel.{frame_length}

-- the bytes of the frame that a list reads
abbrev pub read_length : List Op → ℕ → ℕ → ℕ
read_length [] width rows = 0
read_length (op ∷ ops) width rows = frame_length op width rows

-- the bytes of the frame that a whole list writes
abbrev pub write_length : List Op → ℕ → ℕ → ℕ
write_length [] width rows = 0
write_length (op ∷ []) width rows = frame_length op width rows
write_length (op ∷ next ∷ ops) width rows = write_length (next ∷ ops) width rows

-- the values after some operations
unfoldable pub run_from : List ℕ → PixelPosition → Stage → List Op → Values → Values
run_from frame position stage [] values = values
run_from frame position stage (op ∷ ops) values = run_from frame position (stage_after stage op) ops (apply frame position stage op values)

unfoldable pub checked_run_from : List ℕ → PixelPosition → Stage → List Op → Values → Option Values
checked_run_from frame position stage [] values = Some values
checked_run_from frame position stage (op ∷ ops) values =
    option_and_then (λ next. checked_run_from frame position (stage_after stage op) ops next) (checked_apply frame position stage op values)

-- the elements given to Write for the pixel at x in a row of the frame, where y is the row by which the dither goes
unfoldable pub run : List Op → List ℕ → ℕ → ℕ → ℕ → ℕ → ℕ → List ℕ
run ops frame width rows x row y =
    let values = run_from frame (record { width = width; rows = rows; x = x; row = row; y = y }) Start ops no_values in four
    (λ i. number values i)

unfoldable pub checked_run : List Op → List ℕ → ℕ → ℕ → ℕ → ℕ → ℕ → Option (List ℕ)
checked_run ops frame width rows x row y =
    option_map (λ values. four (λ i. number values i))
    (checked_run_from frame (record { width = width; rows = rows; x = x; row = row; y = y }) Start ops no_values)

-- an operation may be applied: it may follow, its arguments are good, the values are of the type, and a Read has the frame that it states
pub record MayApply (frame : List ℕ) (position : PixelPosition) (stage : Stage) (op : Op) (values : Values) : Type 0 where
  pub follows : may_follow stage op ≡ true
  pub good : are_good stage op ≡ true
  pub kind : are_fractions values ≡ is_rational stage
  pub column : position.x < position.width
  pub row : position.row < position.rows
  pub size : is_start stage ≡ true → length frame ≡ frame_length op position.width position.rows

-- the operations of a list may be applied one after the other
pub record MayRun (frame : List ℕ) (position : PixelPosition) (stage : Stage) (ops : List Op) (values : Values) : Type 0 where
  pub typed : are_typed stage ops ≡ true
  pub kind : are_fractions values ≡ is_rational stage
  pub column : position.x < position.width
  pub row : position.row < position.rows
  pub size : is_start stage ≡ true → length frame ≡ read_length ops position.width position.rows
