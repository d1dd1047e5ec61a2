use Rattle.std.proofs.Common.{◌≡◌, ◌<◌, ◌≤◌, ◌+◌, ◌-◌, ◌*◌, ◌^◌, inl, inr, ⊎_elim, ap, sym, subst, slice_index, slice_index_or, arith}
use Rattle.std.proofs.lemmas.Bool.{cases_lt}
use Rattle.op_list.specs.Types.{bits}
use Rattle.kernel_planes.proofs.read.read_whole.Goals as goal

pub returns-then-split_part-clause-small : goal.returns-then-split_part-clause-small
returns-then-split_part-clause-small g c =
    λ low v i d few below.
    let before = c.args.before in
    let number = g.W.WholeNumber.number in
    let limit = 2 ^ bits c.args.elem in
    let bytes : 256 ≡ limit = ap (λ t. 2 ^ bits t) (sym c.in-U8.is) in
    let new = c.split_part.new.values in
    let yes = c.if-split_part.true in
    ⊎_elim
    (λ (lt : v < before).
    subst (λ x. number x < limit) (sym (c.split_part.ensures.kept yes (64 * v + i) d (inl (omega arith)))) (low v i d few below))
    (λ (ge : before ≤ v).
    ⊎_elim
    (λ (here : v < before + c.args.count).
    let same : before + (v - before) ≡ v = omega arith in
    let place = c.args.x * c.args.count + (c.args.count * i + (v - before)) in
    subst (λ t. number (slice_index_or new (64 * t + i) d) < limit) same
    (subst (λ t. t < limit) (sym (c.split_part.ensures.set yes (v - before) i d (omega arith) below))
    (subst (λ t. slice_index c.args.from.now place < t) bytes (c.type_inv.from place).fits)))
    (λ (past : before + c.args.count ≤ v).
    subst (λ x. number x < limit) (sym (c.split_part.ensures.kept yes (64 * v + i) d (inr (omega arith)))) (low v i d few below))
    (cases_lt v (before + c.args.count)))
    (cases_lt v before)
