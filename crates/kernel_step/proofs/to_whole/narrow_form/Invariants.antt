use Rattle.std.proofs.Common.{◌≡◌, ℕ, ◌<◌, length}
use Rattle.op_list.specs.Types.{bits}
use Rattle.kernel_step.specs.Forms.{IsNarrowed, width_of}
use Rattle.kernel_step.proofs.to_whole.narrow_form.Given as goal

abbrev pub invariant-loop-v : goal.invariant-loop-v
invariant-loop-v l = record {
  count : l.after.count ≡ l.v;
  divisors : length l.after.divisors ≡ 4;
  narrowed : (v : ℕ) → v < l.v → IsNarrowed (width_of l.number_width) (bits l.to) l.before l.after v;
}
