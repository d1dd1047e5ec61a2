use Rattle.std.proofs.Common.{◌≡◌, ℕ, ◌+◌, ap, sym, ◌∙◌, arith, slice_index}
use Rattle.std.proofs.lemmas.List.{get_or_past}
use Rattle.kernel_planes.specs.Planes.{row_element, rows_of}
use Rattle.kernel_planes.proofs.PlaneRows.{by_four}
use Rattle.kernel_planes.proofs.moves.move_row.Goals as goal

pub returns : goal.returns
returns c =
    λ x v within there.
    let to = c.args.to.now in
    let elem = c.args.elem in
    let value : ℕ → ℕ = λ t. row_element elem c.args.planes.now (rows_of c.args.input.now) x (slice_index c.args.from.now t) in
    let one : c.from-a.result ≡ slice_index to 0 = omega arith in
    let two : c.from-b.result ≡ slice_index to 1 = omega arith in
    let three : c.from-c.result ≡ slice_index to 2 = omega arith in
    let four : c.from-d.result ≡ slice_index to 3 = omega arith in
    sym (by_four elem to c.move_plane.new.to c.move_plane-2.new.to c.move_plane-3.new.to c.move_plane-4.new.to x v (value v)
    (λ p past. get_or_past to p 0 (omega (arith, past))) there
    (λ e inside is. let start : v ≡ 0 + e = omega (arith, is) in ap value start ∙ sym ((rw one at c.move_plane.ensures) x e within inside))
    (λ e inside is. ap value is ∙ sym ((rw (one, two) at c.move_plane-2.ensures) x e within inside))
    (λ e inside is. ap value is ∙ sym ((rw (one, two, three) at c.move_plane-3.ensures) x e within inside))
    (λ e inside is. ap value is ∙ sym ((rw (one, two, three, four) at c.move_plane-4.ensures) x e within inside)))
