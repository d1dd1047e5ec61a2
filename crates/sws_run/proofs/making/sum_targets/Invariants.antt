-- The first k frames are made, converted and summed.
use Rattle.std.proofs.Common.{◌≡◌, ◌*◌, ◌^◌, ◌≤◌, drop}
use Rattle.std.specs.Prelude.{sum}
use Rattle.frame_slices.specs.Generated.{generated}
use Rattle.sws_run.specs.Report.{IsFrameMade, made_length, made_targets}
use Rattle.sws_run.proofs.making.sum_targets.Given as goal

abbrev pub invariant-loop : goal.invariant-loop
invariant-loop g l = record {
  here : generated l.generator.state l.generator.left
      ≡ drop (l.counter * made_length l.making.pair) (generated l.making.seed (4 * made_length l.making.pair));
  value : l.total ≡ sum (made_targets l.making l.counter);
  most : l.total ≤ l.counter * 2 ^ 64;
  fits : IsFrameMade l.making l.frame.whole;
}
