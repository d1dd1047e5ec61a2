use Rattle.std.proofs.Common.{◌≡◌, ◌+◌, arith, add-one}
use Rattle.std.specs.Prelude.{sum}
use Rattle.std.proofs.lemmas.List.Sums.{sum_by-append}
use Rattle.frame_slices.specs.FrameSlices.{target_plane_in, target_planes_in}
use Rattle.frame_slices.proofs.sums.sum_planes.Goals as goal

pub loop-plane-preserved : goal.loop-plane-preserved
loop-plane-preserved c =
    let p = c.loop-plane.plane in
    let xs = c.args.slices.now in
    let more : sum (target_planes_in (p + 1) xs) ≡ sum (target_planes_in p xs) + sum (target_plane_in p xs) =
    rw add-one (sum_by-append (λ n. n) (target_planes_in p xs) (target_plane_in p xs)) in
    record {
      value = omega (arith, c.loop-plane.invariant.value, c.sum_plane-total.ensures.value, more);
      most = omega (arith, c.loop-plane.invariant.most, c.sum_plane-total.ensures.most);
    }
