use Rattle.std.proofs.Common.{◌≡◌}
use Rattle.kernel_step.specs.Forms.{stage_before}
use Rattle.kernel_affine.proofs.chain.find_chain.Given as goal

abbrev pub invariant-loop-at : goal.invariant-loop-at
invariant-loop-at l = l.stage ≡ stage_before l.ops l.at
