use Rattle.std.proofs.Common.{◌-◌, suc, rules}
use Rattle.frame_slices.specs.FrameSlices.{target_plane_in, target_planes_in}
use Rattle.frame_slices.proofs.SlicePlanes.{target_planes_from, target_planes_around}
use Rattle.frame_slices.proofs.ReadsOn.{write_failed_at}
use Rattle.frame_slices.proofs.slices.write_planes.Goals as goal

pub returns-in-Err-clause-part_written : goal.returns-in-Err-clause-part_written
returns-in-Err-clause-part_written g c =
    let p = c.loop-plane.plane in
    let xs = c.args.slices.now in
    write_failed_at (g.Out.Sink.shown c.args.output.now) (g.Out.Sink.shown c.loop-plane.output)
    (g.Out.Sink.shown c.write_plane.new.output) (target_planes_in p xs) (target_plane_in p xs) (target_planes_from (suc p) (3 - p) xs)
    (target_planes_in 4 xs)
    (target_planes_around p xs (search rules)) c.loop-plane.invariant.written c.in-Err.ensures.part_written
