use Rattle.std.proofs.Common.{◌≡◌, ℕ, ◌<◌, ◌+◌, ◌*◌, ◌/◌, ◌%◌, ◌∙◌, ap, slice_index, arith}
use Rattle.kernel_lane.proofs.blocks.join_sixteen.Goals as goal

place : (first j v : ℕ) → v < 3 → 64 * ((3 * j + v) % 3) + (first + (3 * j + v) / 3) ≡ 64 * v + (first + j)
place first j v few = omega (arith, few)

pub returns-in-3-clause-set : goal.returns-in-3-clause-set
returns-in-3-clause-set g c =
    λ v j few below.
    let first = c.args.first in
    let three : v < 3 = omega (arith, few, c.in-3.is) in
    let there : 3 * (first + j) + v ≡ 3 * first + (3 * j + v) = omega arith in
    ap (λ n. slice_index c.join_triples.new.to (n * (first + j) + v)) c.in-3.is ∙ ap (slice_index c.join_triples.new.to) there
    ∙ c.join_triples.ensures.set (3 * j + v) (omega (arith, three, below)) ∙ ap (slice_index c.args.from.now) (place first j v three)
