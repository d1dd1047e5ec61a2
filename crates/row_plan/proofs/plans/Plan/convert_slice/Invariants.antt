-- The first rows are converted.
use Rattle.std.proofs.Common.{◌≡◌, ◌<◌, ℕ, length, slice_index}
use Rattle.row_plan.specs.Rows.{AreConverted}
use Rattle.row_plan.proofs.plans.Plan.convert_slice.Given as goal

abbrev pub invariant-loop-row : goal.invariant-loop-row
invariant-loop-row l = record {
  size : length l.output ≡ length l.fn.output;
  bytes : (k : ℕ) → slice_index l.output k < 256;
  converted : AreConverted l.self.pair l.slice l.input l.output l.row;
}
