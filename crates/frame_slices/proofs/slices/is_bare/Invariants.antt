-- The slices so far have no rows of the plane.
use Rattle.std.proofs.Common.{◌≡◌, ℕ, ◌<◌, length, get_or}
use Rattle.frame_slices.specs.declared.frame_slice.FrameSlice.{FrameSlice}
use Rattle.frame_slices.specs.FrameSlices.{plane_of}
use Rattle.frame_slices.proofs.slices.is_bare.Given as goal

abbrev pub invariant-loop-k : goal.invariant-loop-k
invariant-loop-k l = record {
  bare : (j : ℕ) (d : FrameSlice) → j < l.k → length (plane_of l.plane (get_or l.slices j d)) ≡ 0;
}
