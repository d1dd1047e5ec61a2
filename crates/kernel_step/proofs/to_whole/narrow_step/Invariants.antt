use Rattle.op_list.specs.Types.{bits}
use Rattle.kernel_step.proofs.NarrowSteps.{Floors}
use Rattle.kernel_step.proofs.to_whole.narrow_step.Given as goal

abbrev pub invariant-loop-v : goal.invariant-loop-v
invariant-loop-v g l = Floors g.W.WholeNumber.number g.N.Numerator.value (bits l.to) l.before l.numbers l.values l.v
