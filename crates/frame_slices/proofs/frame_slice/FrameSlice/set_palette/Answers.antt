use Rattle.std.proofs.Common.{◌≡◌, ◌-◌, ◌++◌, ◌≤◌, length, take, drop, rules, arith, ◌∙◌, ap, length-take-le}
use Rattle.std.proofs.lemmas.List.{length-drop}
use Rattle.row_plan.specs.Slices.{plane_rows}
use Rattle.frame_slices.proofs.PlaneParts.{planes_below, earlier_kept, items_are, length_put, palette_size}
use Rattle.frame_slices.proofs.frame_slice.FrameSlice.set_palette.Goals as goal
use borrow.Rule.Slice.PartMut.{put_mid}

pub copy_from_slice-requires : goal.copy_from_slice-requires
copy_from_slice-requires c =
    let place = c.args.self.now.place in
    let xs = c.deref_mut.result.now in
    let a = c.plane_at-start.result in
    let size : length xs ≡ c.args.self.now.input.len = search rules in
    let palette = palette_size place.source place.width place.rows (length xs) (size ∙ c.args.self.now.input_size) c.requires.has in
    length-take-le (length xs - a) (drop a xs) (omega (arith, length-drop a xs))
    ∙ omega (arith, palette, c.plane_at-start.ensures.value, c.requires.size)

pub returns-clause-planes : goal.returns-clause-planes
returns-clause-planes c = λ q used.
    let place = c.args.self.now.place in
    let v = c.args.self.now.input in
    let a = c.plane_at-start.result in
    let xs = c.deref_mut.result.now in
    let k = length xs - a in
    let ys = c.copy_from_slice.new.self in
    let size : length xs ≡ v.len = search rules in
    let within : a ≤ length xs = omega (arith, c.plane_at-start.ensures.inside, c.args.self.now.input_size, size) in
    let palette = palette_size place.source place.width place.rows (length xs) (size ∙ c.args.self.now.input_size) c.requires.has in
    let long : length ys ≡ k = ap length c.copy_from_slice.ensures.after
    ∙ omega (arith, palette, c.plane_at-start.ensures.value, c.requires.size) in
    let same : xs ≡ v.items = search rules in
    let zs = put_mid a k xs ys in
    let whole : take v.len (zs ++ drop (length zs) v.items)
    ≡ zs = items_are v.len zs (drop (length zs) v.items) (length_put xs ys a k (omega (arith, within)) long ∙ size) in
    ap (λ l. plane_rows place.source place.width place.rows l 0 place.rows q) whole
    ∙ earlier_kept place.source place.width place.rows q a k xs ys q
    (omega (arith, planes_below place.source place.width place.rows q 4 used, c.plane_at-start.ensures.value)) within
    ∙ ap (λ l. plane_rows place.source place.width place.rows l 0 place.rows q) same
