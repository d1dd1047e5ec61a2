use Rattle.std.proofs.Common.{◌≡◌, ◌+◌, ◌*◌, ap, sym, ◌∙◌, arith, slice_index}
use Rattle.op_list.specs.Pixel.{element}
use Rattle.kernel_planes.specs.Planes.{row_at, row_element, rows_of}
use Rattle.kernel_planes.proofs.PlaneRows.{element_at}
use Rattle.kernel_planes.proofs.moves.move_value.Goals as goal

pub returns-clause-set : goal.returns-clause-set
returns-clause-set c =
    λ i below.
    let planes = c.args.planes.now in
    let rows = rows_of c.args.input.now in
    let elem = c.args.elem in
    let place = c.place_of-place.result in
    let count : c.from.result ≡ slice_index planes place.plane = c.from.ensures in
    let there : place.element + i * slice_index planes place.plane ≡ i * slice_index planes place.plane + place.element = omega arith in
    c.move_strided.ensures.set i below
    ∙ ap (λ row. element elem row (place.element + i * c.from.result)) c.row.ensures
    ∙ ap (λ n. element elem (row_at rows place.plane) (place.element + i * n)) count
    ∙ ap (element elem (row_at rows place.plane)) there
    ∙ sym (element_at elem planes rows i place.plane place.element c.place_of-place.ensures.element)
    ∙ ap (row_element elem planes rows i) (sym c.place_of-place.ensures.value)
