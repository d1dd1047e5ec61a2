-- The bytes so far are those of the generator.
use Rattle.std.proofs.Common.{◌≡◌, length, take}
use Rattle.frame_slices.specs.Generated.{generated, state_after}
use Rattle.frame_slices.proofs.generator.fill.Given as goal

abbrev pub invariant-loop-k : goal.invariant-loop-k
invariant-loop-k l = record {
  count : length l.bytes ≡ length l.fn.bytes;
  state : l.state ≡ state_after l.seed l.k;
  bytes : take l.k l.bytes ≡ generated l.seed l.k;
}
