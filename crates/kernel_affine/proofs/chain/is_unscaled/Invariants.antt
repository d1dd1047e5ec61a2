use Rattle.std.proofs.Common.{◌≡◌, ℕ, ◌<◌, pos}
use Rattle.kernel_step.specs.Forms.{factor, factors_at}
use Rattle.kernel_affine.proofs.chain.is_unscaled.Given as goal

abbrev pub invariant-loop-v : goal.invariant-loop-v
invariant-loop-v l = (v : ℕ) → v < l.v → factor (factors_at l.form v) 0 ≡ pos 1
