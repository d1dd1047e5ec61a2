use Rattle.std.proofs.Common.{arith, add-one}
use Rattle.row_plan.proofs.SlicePlanes.{length-plane_rows, planes_in_frame}
use Rattle.frame_slices.proofs.SlicePlanes.{input_length}
use Rattle.frame_slices.proofs.frame_slice.FrameSlice.plane_len.Goals as goal

pub returns-clause-value : goal.returns-clause-value
returns-clause-value c =
    let self = c.args.self.now in
    let place = self.place in
    let size = input_length self in
    let long = length-plane_rows place.source place.width place.rows 0 place.rows c.args.plane self.input.items c.requires (omega arith)
    (planes_in_frame place.source place.width place.rows self.input.items size) in
    let end = rw add-one at c.plane_at.ensures.value in
    omega (arith, end, c.plane_at-start.ensures.value, long)
