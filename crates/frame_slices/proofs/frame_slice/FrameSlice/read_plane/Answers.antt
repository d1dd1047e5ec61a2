use Rattle.std.proofs.Common.{◌≡◌, ◌+◌, ◌-◌, ◌++◌, ◌<◌, ◌≤◌, suc, length, take, drop, sym, subst, rules, arith, add-one, ◌∙◌, ap}
use Rattle.pix_desc.specs.Frame.{plane_start}
use Rattle.row_plan.specs.Slices.{plane_rows, behind_planes}
use Rattle.frame_slices.specs.FrameSlices.{Reads}
use Rattle.frame_slices.proofs.PlaneParts.{plane_put, others_kept, behind_kept, items_are, length_put}
use Rattle.frame_slices.proofs.ReadsOn.{stops_inside}
use Rattle.frame_slices.proofs.frame_slice.FrameSlice.read_plane.Goals as goal
use borrow.Rule.Slice.PartMut.{put_mid}

pub returns-clause-read : goal.returns-clause-read
returns-clause-read g c =
    let place = c.args.self.now.place in
    let v = c.args.self.now.input in
    let a = c.plane_at-start.result in
    let k = c.plane_at-end.result - a in
    let xs = c.deref_mut.result.now in
    let ys = c.read_whole.new.buf in
    let start = c.plane_at-start.ensures.value in
    let stop = rw add-one at c.plane_at-end.ensures.value in
    let end : a + k ≡ plane_start place.source place.width place.rows (suc c.args.plane) = omega (arith, start, stop) in
    let size : length xs ≡ v.len = search rules in
    let inside : a + k ≤ length xs = omega (arith, start, stop, c.plane_at-end.ensures.inside, c.args.self.now.input_size, size) in
    let within : a ≤ length xs = omega (arith, inside) in
    let long : length ys ≡ k = search rules in
    let some : 0 < length ys = search rules in
    let zs = put_mid a k xs ys in
    let whole : take v.len (zs ++ drop (length zs) v.items)
    ≡ zs = items_are v.len zs (drop (length zs) v.items) (length_put xs ys a k inside long ∙ size) in
    subst (Reads (g.In.Source.shown c.args.input.now) (g.In.Source.shown c.read_whole.new.input) c.read_whole.result)
    (sym (ap (λ l. plane_rows place.source place.width place.rows l 0 place.rows c.args.plane) whole
    ∙ plane_put place.source place.width place.rows c.args.plane a k xs ys start end within long))
    (record {
      taken = c.read_whole.ensures.taken;
      range = stops_inside c.read_whole.result (length ys) some c.read_whole.ensures.range;
      part_taken = c.read_whole.ensures.part_taken;
      cause = c.read_whole.ensures.cause;
    })

pub returns-clause-others : goal.returns-clause-others
returns-clause-others g c =
    let place = c.args.self.now.place in
    let v = c.args.self.now.input in
    let a = c.plane_at-start.result in
    let k = c.plane_at-end.result - a in
    let xs = c.deref_mut.result.now in
    let ys = c.read_whole.new.buf in
    let start = c.plane_at-start.ensures.value in
    let stop = rw add-one at c.plane_at-end.ensures.value in
    let end : a + k ≡ plane_start place.source place.width place.rows (suc c.args.plane) = omega (arith, start, stop) in
    let size : length xs ≡ v.len = search rules in
    let inside : a + k ≤ length xs = omega (arith, start, stop, c.plane_at-end.ensures.inside, c.args.self.now.input_size, size) in
    let within : a ≤ length xs = omega (arith, inside) in
    let long : length ys ≡ k = search rules in
    let same : xs ≡ v.items = search rules in
    let zs = put_mid a k xs ys in
    let whole : take v.len (zs ++ drop (length zs) v.items)
    ≡ zs = items_are v.len zs (drop (length zs) v.items) (length_put xs ys a k inside long ∙ size) in
    λ q used other.
    ap (λ l. plane_rows place.source place.width place.rows l 0 place.rows q) whole
    ∙ others_kept place.source place.width place.rows c.args.plane a k xs ys q other start end within long
    ∙ ap (λ l. plane_rows place.source place.width place.rows l 0 place.rows q) same

pub returns-clause-behind : goal.returns-clause-behind
returns-clause-behind g c =
    let place = c.args.self.now.place in
    let v = c.args.self.now.input in
    let a = c.plane_at-start.result in
    let k = c.plane_at-end.result - a in
    let xs = c.deref_mut.result.now in
    let ys = c.read_whole.new.buf in
    let start = c.plane_at-start.ensures.value in
    let stop = rw add-one at c.plane_at-end.ensures.value in
    let end : a + k ≡ plane_start place.source place.width place.rows (suc c.args.plane) = omega (arith, start, stop) in
    let size : length xs ≡ v.len = search rules in
    let inside : a + k ≤ length xs = omega (arith, start, stop, c.plane_at-end.ensures.inside, c.args.self.now.input_size, size) in
    let within : a ≤ length xs = omega (arith, inside) in
    let long : length ys ≡ k = search rules in
    let same : xs ≡ v.items = search rules in
    let zs = put_mid a k xs ys in
    let whole : take v.len (zs ++ drop (length zs) v.items)
    ≡ zs = items_are v.len zs (drop (length zs) v.items) (length_put xs ys a k inside long ∙ size) in
    ap (behind_planes place.source place.width place.rows) whole
    ∙ behind_kept place.source place.width place.rows c.args.plane a k xs ys c.requires end within long
    ∙ ap (behind_planes place.source place.width place.rows) same
