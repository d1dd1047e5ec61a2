-- What the definitions keep: the laws that the functions of src/laws.rt prove.
use Rattle.std.specs.Prelude.{◌≡◌, ℕ, ◌+◌, ◌*◌, ◌<◌, List, take, sum, slice_index, Some}
use Rattle.op_list.specs.declared.types.Stage.{Stage}
use Rattle.op_list.specs.declared.position.PixelPosition.{PixelPosition}
use Rattle.op_list.specs.declared.op.Op.{Op}
use Rattle.op_list.specs.declared.values.Values.{Values}
use Rattle.op_list.specs.Pixel.{element_in}
use Rattle.op_list.specs.Apply.{apply}
use Rattle.op_list.specs.Checked.{checked_apply}
use Rattle.op_list.specs.Run.{run_from, checked_run_from, run, checked_run}
use Rattle.op_list.specs.Fits.{StepFits, StepsFit}

-- the checked answer of an operation is the exact one
abbrev pub AppliesExactly : Type 0
AppliesExactly = (frame : List ℕ) (position : PixelPosition) (stage : Stage) (op : Op) (values next : Values)
    → checked_apply frame position stage op values ≡ Some next → apply frame position stage op values ≡ next

-- the checked answer of a list is the exact one
abbrev pub RunsExactly : Type 0
RunsExactly = (ops : List Op) (frame : List ℕ) (width rows x row y : ℕ) (elements : List ℕ)
    → checked_run ops frame width rows x row y ≡ Some elements → run ops frame width rows x row y ≡ elements

-- where all numbers fit, there is an answer
abbrev pub AppliesWhereItFits : Type 0
AppliesWhereItFits = (frame : List ℕ) (position : PixelPosition) (stage : Stage) (op : Op) (values : Values)
    → StepFits position op values → checked_apply frame position stage op values ≡ Some (apply frame position stage op values)

abbrev pub RunsWhereItFits : Type 0
RunsWhereItFits = (frame : List ℕ) (position : PixelPosition) (stage : Stage) (ops : List Op) (values : Values)
    → StepsFit frame position stage ops values
    → checked_run_from frame position stage ops values ≡ Some (run_from frame position stage ops values)

-- element e of a pixel in plane p comes after those of the pixel in the planes before: the planes stand one after the other, and in each
-- the pixels
abbrev pub ReadsInOrder : Type 0
ReadsInOrder = (pixels pixel : ℕ) (planes : List ℕ) (p e : ℕ) → e < slice_index planes p
    → element_in pixels pixel 0 planes (sum (take p planes) + e) ≡ pixels * sum (take p planes) + pixel * slice_index planes p + e
