use Rattle.std.proofs.Common.{ℕ, ◌<◌, FitsSigned}
use Rattle.kernel_step.specs.Forms.{width_of, factor}
use Rattle.kernel_step.proofs.row_form.all_fit.Given as goal

abbrev pub invariant-loop-k : goal.invariant-loop-k
invariant-loop-k l = (j : ℕ) → j < l.k-index → FitsSigned (width_of l.number_width) (factor l.factors j)
