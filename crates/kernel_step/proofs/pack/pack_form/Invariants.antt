use Rattle.std.proofs.Common.{◌≡◌, ℕ, ◌<◌, ◌⊎◌, slice_index}
use Rattle.kernel_step.proofs.pack.pack_form.Given as goal

abbrev pub invariant-loop-j : goal.invariant-loop-j
invariant-loop-j l = (j : ℕ) → j < l.j → (j < l.before.count) ⊎ (slice_index l.widths j ≡ 0)
