use Rattle.std.proofs.Common.{◌≡◌, ◌+◌, ◌*◌, ◌∙◌, ap, slice_index, arith}
use Rattle.kernel_lane.proofs.Turns.{of_load, two_cases}
use Rattle.kernel_lane.proofs.pairs.join_pairs.Goals as goal

pub returns-clause-set : goal.returns-clause-set
returns-clause-set c =
    λ v j few below.
    let values = c.args.values.now in
    let first = c.args.first in
    let start : c.args.start + (2 * j + 0) ≡ c.args.start + 2 * j = omega arith in
    two_cases (λ v. slice_index c.store_two.new.to (c.args.start + (2 * j + v)) ≡ slice_index values (64 * v + (first + j)))
    (ap (slice_index c.store_two.new.to) start ∙ c.store_two.ensures.set (2 * j) (omega arith) ∙ c.join_vectors.ensures.even j below
    ∙ of_load values first j (64 * 0 + (first + j)) below (omega arith))
    (c.store_two.ensures.set (2 * j + 1) (omega arith) ∙ c.join_vectors.ensures.odd j below
    ∙ of_load values (64 + first) j (64 * 1 + (first + j)) below (omega arith))
    v few
