use Rattle.std.proofs.Common.{◌≡◌, ◌∙◌, ap, rules, add-one}
use Rattle.row_plan.specs.Slices.{plane_rows}
use Rattle.frame_slices.proofs.PlaneParts.{plane_between}
use Rattle.frame_slices.proofs.frame_slice.FrameSlice.target_plane.Goals as goal

pub returns-clause-value : goal.returns-clause-value
returns-clause-value c =
    let place = c.args.self.now.place in
    let xs = c.deref.result.now in
    let same : xs ≡ c.args.self.now.output.items = search rules in
    plane_between place.target place.width place.rows c.args.plane c.plane_at-start.result c.plane_at-end.result xs
    c.plane_at-start.ensures.value (rw add-one at c.plane_at-end.ensures.value)
    ∙ ap (λ l. plane_rows place.target place.width place.rows l 0 place.rows c.args.plane) same
