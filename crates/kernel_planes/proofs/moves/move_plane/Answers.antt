use Rattle.std.proofs.Common.{◌≡◌, ◌+◌, ◌*◌, ◌<◌, ap, ◌∙◌, arith, below_more, slice_index}
use Rattle.op_list.specs.Pixel.{element}
use Rattle.kernel_planes.specs.Planes.{row_element, rows_of}
use Rattle.kernel_planes.proofs.PlaneRows.{place_apart}
use Rattle.kernel_planes.proofs.moves.move_plane.Goals as goal

pub loop-e-preserved : goal.loop-e-preserved
loop-e-preserved c =
    λ x t within less.
    let elem = c.args.elem in
    let planes = c.args.planes.now in
    let rows = rows_of c.args.input.now in
    let count = c.args.count in
    let e = c.loop-e.e in
    let to = c.move_value.new.to in
    let inside : e < count = omega arith in
    let here : x * count + e ≡ e + x * count = omega arith in
    below_more (λ t. element elem to (x * count + t) ≡ row_element elem planes rows x (slice_index c.args.from.now (c.args.before + t))) e
    (λ t earlier. c.move_value.ensures.kept (x * count + t)
    (λ k below near. place_apart x k count e t inside (omega (arith, earlier, inside)) (λ same. omega (arith, earlier, same)) (omega (arith, near)))
    ∙ c.loop-e.invariant x t within earlier)
    (ap (element elem to) here ∙ c.move_value.ensures.set x within ∙ ap (row_element elem planes rows x) c.from-v.ensures)
    t less
