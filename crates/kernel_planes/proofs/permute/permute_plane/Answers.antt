use Rattle.std.proofs.Common.{◌≡◌, ℕ, List, ◌+◌, ◌*◌, ◌<◌, ap, sym, ◌∙◌, arith, slice_index}
use Rattle.op_list.specs.Pixel.{element}
use Rattle.op_list.specs.declared.types.PixType.TheVariants.{U8}
use Rattle.kernel_planes.specs.Planes.{row_at, row_element, rows_of}
use Rattle.kernel_planes.proofs.PlaneRows.{element_at}
use Rattle.kernel_planes.proofs.permute.permute_plane.Goals as goal

byte_is : (row : List ℕ) (k : ℕ) → element U8 row k ≡ slice_index row k
byte_is row k =
    let place : k * 1 ≡ k = omega arith in
    let alone : element U8 row k ≡ slice_index row (k * 1) = omega arith in
    alone ∙ ap (slice_index row) place

pub returns : goal.returns
returns c =
    λ x e within less.
    let order = c.requires.order in
    let planes = c.args.planes.now in
    let rows = rows_of c.args.input.now in
    let count = c.args.count in
    let plane = c.args.order.plane in
    let place = slice_index c.args.order.places e in
    let inside : place < slice_index planes plane = omega (arith, order.small e less, order.whole) in
    byte_is c.permute_row.new.to (x * count + e)
    ∙ c.permute_row.ensures x e within less
    ∙ ap (λ row. slice_index row (x * count + place)) c.row.ensures
    ∙ ap (λ n. slice_index (row_at rows plane) (x * n + place)) (sym order.whole)
    ∙ sym (byte_is (row_at rows plane) (x * slice_index planes plane + place))
    ∙ sym (element_at U8 planes rows x plane place inside)
    ∙ ap (row_element U8 planes rows x) (sym (order.values e less))
