use Rattle.std.proofs.Common.{◌≡◌, ℕ, ◌^◌, ◌≤◌}
use Rattle.op_list.specs.Types.{bits_at}
use Rattle.kernel_step.specs.Forms.{stage_before, bits_of}
use Rattle.kernel_step.proofs.storage.storage_of.Given as goal

abbrev pub invariant-loop-op : goal.invariant-loop-op
invariant-loop-op l = record {
  stage : l.stage ≡ stage_before l.ops l.op-index;
  stored : (k : ℕ) → k ≤ l.op-index → 2 ^ bits_at (stage_before l.ops k) ≤ 2 ^ bits_of l.storage;
}
