use Rattle.std.proofs.Common.{◌≡◌, ℕ, ◌+◌, ◌*◌, ◌<◌, ◌≤◌, inl, inr, ⊎_elim, ap, sym, ◌∙◌, arith, below_more, slice_index, slice_index_or}
use Rattle.std.proofs.Common.{take}
use Rattle.std.specs.Prelude.{sum}
use Rattle.std.proofs.lemmas.Bool.{cases_lt}
use Rattle.std.proofs.lemmas.List.{get_or_past, take_all}
use Rattle.op_list.specs.Pixel.{element}
use Rattle.kernel_planes.specs.Planes.{row_at, rows_of}
use Rattle.kernel_planes.proofs.PlaneRows.{by_plane, element_past, plane_more, plane_within}
use Rattle.kernel_planes.proofs.read.read_block.Goals as goal

pub loop-p-preserved : goal.loop-p-preserved
loop-p-preserved g c =
    let planes = c.args.planes.now in
    let rows = rows_of c.args.input.now in
    let p = c.loop-p.p in
    let number = g.W.WholeNumber.number in
    let values = c.read_plane.new.values in
    let count : c.from-count.result ≡ slice_index planes p = omega arith in
    let next : c.loop-p.before + c.from-count.result ≡ sum (take (p + 1) planes) =
    omega (arith, count, c.loop-p.invariant.before, plane_more planes p) in
    record {
      before = next;
      set = λ q e i d less below within.
          below_more (λ q. (e : ℕ) → e < slice_index planes q → number (slice_index_or values (64 * (sum (take q planes) + e) + i) d)
          ≡ element c.args.elem (row_at rows q) ((c.args.x + i) * slice_index planes q + e)) p
          (λ q earlier e below.
          let before : sum (take q planes) + slice_index planes q ≤ sum (take p planes) = plane_within planes q p earlier in
          ap number (c.read_plane.ensures.kept (64 * (sum (take q planes) + e) + i) d
          (inl (omega (arith, before, below, within, c.loop-p.invariant.before))))
          ∙ c.loop-p.invariant.set q e i d earlier below within)
          (λ e below. (rw (count, c.loop-p.invariant.before, c.row.ensures) at c.read_plane.ensures.set) e i d below within)
          q less e below;
      zero = λ j d past below. ap number (c.read_plane.ensures.kept j d (inr (omega arith, below)))
          ∙ c.loop-p.invariant.zero j d (omega (arith, past)) below;
      small = c.read_plane.ensures.small c.loop-p.invariant.small;
    }

pub returns-clause-set : goal.returns-clause-set
returns-clause-set g c =
    λ v i d below within.
    let planes = c.args.planes.now in
    let rows = rows_of c.args.input.now in
    let number = g.W.WholeNumber.number in
    let all : c.loop-p.p ≡ 4 = omega arith in
    ⊎_elim
    (λ (here : v < sum planes).
    by_plane c.args.elem planes rows (c.args.x + i) v (number (slice_index_or c.loop-p.values (64 * v + i) d)) here
    (λ p e inside is.
    let some : p < 4 =
    ⊎_elim (λ (lt : p < 4). lt)
    (λ (ge : 4 ≤ p). let none : slice_index planes p ≡ 0 = get_or_past planes p 0 (omega arith) in absurd (omega (arith, none, inside)))
    (cases_lt p 4) in
    ap (λ t. number (slice_index_or c.loop-p.values (64 * t + i) d)) is
    ∙ c.loop-p.invariant.set p e i d (omega (arith, some, all)) inside within))
    (λ (past : sum planes ≤ v).
    let before : c.loop-p.before ≡ sum planes = c.loop-p.invariant.before ∙ ap sum (take_all c.loop-p.p planes (omega arith)) in
    c.loop-p.invariant.zero (64 * v + i) d (omega (arith, past, before)) (omega (arith, below, within))
    ∙ sym (element_past c.args.elem planes rows (c.args.x + i) v past))
    (cases_lt v (sum planes))
