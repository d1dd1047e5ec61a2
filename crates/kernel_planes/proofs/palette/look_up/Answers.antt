use Rattle.std.proofs.Common.{rules, refl, ◌≡◌, ◌+◌, ◌-◌, ◌*◌, ◌∙◌, ap, length, slice_index, arith}
use Rattle.kernel_planes.proofs.Parts.{part_is, put_back}
use Rattle.kernel_planes.proofs.palette.look_up.Goals as goal

pub returns-clause-set : goal.returns-clause-set
returns-clause-set g c =
    λ i d below.
    let first = 64 * c.args.v in
    let n = c.args.n in
    let number = g.W.WholeNumber.number in
    let size : length c.merge_front.new.to ≡ n = search rules in
    ap number (put_back first (first + n - first) c.args.values.now c.merge_front.new.to (first + i) i d (omega arith)
    (omega (arith, size, below)) refl)
    ∙ c.merge_front.ensures.set i d 0 d below
    ∙ ap (λ t. slice_index c.args.palette.now (4 * t + c.args.byte)) (part_is c.args.x _ c.args.indices.now i 0 (omega (arith, below)))
