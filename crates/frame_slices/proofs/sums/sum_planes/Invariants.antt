-- The planes so far are summed.
use Rattle.std.proofs.Common.{◌≡◌, ◌*◌, ◌^◌, ◌≤◌}
use Rattle.std.specs.Prelude.{sum}
use Rattle.frame_slices.specs.FrameSlices.{target_planes_in}
use Rattle.frame_slices.proofs.sums.sum_planes.Given as goal

abbrev pub invariant-loop-plane : goal.invariant-loop-plane
invariant-loop-plane l = record {
  value : l.total ≡ sum (target_planes_in l.plane l.slices);
  most : l.total ≤ l.plane * 2 ^ 56;
}
