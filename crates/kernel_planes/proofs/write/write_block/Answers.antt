use Rattle.std.proofs.Common.{◌≡◌, ℕ, ◌+◌, ◌*◌, ap, sym, ◌∙◌, arith, slice_index, slice_index_or}
use Rattle.std.proofs.lemmas.List.{get_or_past}
use Rattle.kernel_planes.proofs.PlaneRows.{by_four, same_four, other_outside}
use Rattle.kernel_planes.proofs.write.write_block.Goals as goal

pub returns-clause-stored : goal.returns-clause-stored
returns-clause-stored g c =
    λ v i d within lane.
    let planes = c.args.planes.now in
    let x = c.args.x in
    let number = g.W.WholeNumber.number in
    let at : ℕ → ℕ = λ t. number (slice_index_or c.args.values.now (64 * t + i) d) in
    let one : c.from-a.result ≡ slice_index planes 0 = omega arith in
    let two : c.from-b.result ≡ slice_index planes 1 = omega arith in
    let three : c.from-c.result ≡ slice_index planes 2 = omega arith in
    let four : c.from-d.result ≡ slice_index planes 3 = omega arith in
    sym (by_four c.args.elem planes c.write_plane.new.to c.write_plane-2.new.to c.write_plane-3.new.to c.write_plane-4.new.to (x + i) v
    (at v) (λ p past. get_or_past planes p 0 (omega (arith, past))) within
    (λ e inside is. let start : v ≡ 0 + e = omega (arith, is) in ap at start
    ∙ sym ((rw one at c.write_plane.ensures.set) e i d inside lane))
    (λ e inside is. ap at is ∙ sym ((rw (one, two) at c.write_plane-2.ensures.set) e i d inside lane))
    (λ e inside is. ap at is ∙ sym ((rw (one, two, three) at c.write_plane-3.ensures.set) e i d inside lane))
    (λ e inside is. ap at is ∙ sym ((rw (one, two, three, four) at c.write_plane-4.ensures.set) e i d inside lane)))

pub returns-clause-others : goal.returns-clause-others
returns-clause-others g c =
    λ other v outside.
    let planes = c.args.planes.now in
    let x = c.args.x in
    let n = c.args.n in
    let one : c.from-a.result ≡ slice_index planes 0 = omega arith in
    let two : c.from-b.result ≡ slice_index planes 1 = omega arith in
    let three : c.from-c.result ≡ slice_index planes 2 = omega arith in
    let four : c.from-d.result ≡ slice_index planes 3 = omega arith in
    same_four c.args.elem planes c.write_plane.new.to c.write_plane-2.new.to c.write_plane-3.new.to c.write_plane-4.new.to
    c.args.first.now c.args.second.now c.args.third.now c.args.fourth.now other other v
    (λ p past. get_or_past planes p 0 (omega (arith, past)))
    (λ e inside. (rw one at c.write_plane.ensures.kept) _ (other_outside x n other _ e inside outside))
    (λ e inside. (rw two at c.write_plane-2.ensures.kept) _ (other_outside x n other _ e inside outside))
    (λ e inside. (rw three at c.write_plane-3.ensures.kept) _ (other_outside x n other _ e inside outside))
    (λ e inside. (rw four at c.write_plane-4.ensures.kept) _ (other_outside x n other _ e inside outside))
