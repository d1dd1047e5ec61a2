-- The slices so far are summed.
use Rattle.std.proofs.Common.{◌≡◌, ◌*◌, ◌^◌, ◌≤◌, take}
use Rattle.std.specs.Prelude.{sum}
use Rattle.frame_slices.specs.FrameSlices.{target_plane_in}
use Rattle.frame_slices.proofs.sums.sum_plane.Given as goal

abbrev pub invariant-loop-k : goal.invariant-loop-k
invariant-loop-k l = record {
  value : l.total ≡ sum (target_plane_in l.plane (take l.k l.slices));
  most : l.total ≤ l.k * 2 ^ 42;
}
