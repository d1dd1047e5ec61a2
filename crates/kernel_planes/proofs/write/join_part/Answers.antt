use Rattle.std.proofs.Common.{rules, ◌≡◌, ◌+◌, ◌*◌, ◌∙◌, ap, length, slice_index_or, arith}
use Rattle.kernel_planes.proofs.Parts.{part_is, pixel_below, put_is}
use Rattle.kernel_planes.proofs.write.join_part.Goals as goal

pub returns-clause-set : goal.returns-clause-set
returns-clause-set g c =
    λ yes v i d few below.
    let before = c.args.before in
    let number = g.W.WholeNumber.number in
    let values = c.args.values.now in
    let size : length c.join.new.to ≡ 64 * c.args.count = search rules in
    let there : 64 * before + (64 * v + i) ≡ 64 * (before + v) + i = omega arith in
    put_is c.args.start c.args.to.now c.join.new.to _ (c.args.count * i + v) 0 (omega arith)
    (omega (arith, size, pixel_below c.args.count i v few below))
    ∙ c.join.ensures.set yes v i d few below
    ∙ ap number (part_is (64 * before) _ values (64 * v + i) d (omega (arith, few, below)))
    ∙ ap (λ n. number (slice_index_or values n d)) there
