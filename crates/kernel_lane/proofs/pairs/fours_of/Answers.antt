use Rattle.std.proofs.Common.{◌≡◌, ◌<◌, ◌+◌, ◌*◌, ◌++◌, ◌∙◌, ap, slice_index, arith}
use Rattle.kernel_lane.proofs.Turns.{four_in_turn, of_high, of_low}
use Rattle.kernel_lane.proofs.pairs.fours_of.Goals as goal

pub returns-clause-low : goal.returns-clause-low
returns-clause-low c =
    λ v j few below.
    let whole = c.join_vectors-3.result.0 ++ c.join_vectors-3.result.1 in
    let even = c.join_vectors.result in
    let odd = c.join_vectors-2.result in
    let long = c.join_vectors.ensures.sizes.0 in
    let long_too = c.join_vectors-2.ensures.sizes.0 in
    let here : 0 + j ≡ j = omega arith in
    let place : 64 * v + (c.args.first + (0 + j)) ≡ 64 * v + (c.args.first + j) = omega arith in
    let small : 0 + j < 16 = omega arith in
    four_in_turn whole even.0 odd.0 c.args.values.now c.args.first 0 j (omega arith) below
    c.join_vectors-3.ensures.even c.join_vectors-3.ensures.odd
    (of_low even.0 even.1 (2 * j) (2 * (0 + j)) _ long (omega arith) (omega arith) (c.join_vectors.ensures.even (0 + j) small))
    (of_low odd.0 odd.1 (2 * j) (2 * (0 + j)) _ long_too (omega arith) (omega arith) (c.join_vectors-2.ensures.even (0 + j) small))
    (of_low even.0 even.1 (2 * j + 1) (2 * (0 + j) + 1) _ long (omega arith) (omega arith) (c.join_vectors.ensures.odd (0 + j) small))
    (of_low odd.0 odd.1 (2 * j + 1) (2 * (0 + j) + 1) _ long_too (omega arith) (omega arith) (c.join_vectors-2.ensures.odd (0 + j) small))
    v few
    ∙ ap (slice_index c.args.values.now) place

pub returns-clause-high : goal.returns-clause-high
returns-clause-high c =
    λ v j few below.
    let whole = c.join_vectors-4.result.0 ++ c.join_vectors-4.result.1 in
    let even = c.join_vectors.result in
    let odd = c.join_vectors-2.result in
    let long = c.join_vectors.ensures.sizes.0 in
    let long_too = c.join_vectors-2.ensures.sizes.0 in
    let small : 8 + j < 16 = omega arith in
    four_in_turn whole even.1 odd.1 c.args.values.now c.args.first 8 j (omega arith) below
    c.join_vectors-4.ensures.even c.join_vectors-4.ensures.odd
    (of_high even.0 even.1 (2 * j) (2 * (8 + j)) _ long (omega arith) (c.join_vectors.ensures.even (8 + j) small))
    (of_high odd.0 odd.1 (2 * j) (2 * (8 + j)) _ long_too (omega arith) (c.join_vectors-2.ensures.even (8 + j) small))
    (of_high even.0 even.1 (2 * j + 1) (2 * (8 + j) + 1) _ long (omega arith) (c.join_vectors.ensures.odd (8 + j) small))
    (of_high odd.0 odd.1 (2 * j + 1) (2 * (8 + j) + 1) _ long_too (omega arith) (c.join_vectors-2.ensures.odd (8 + j) small))
    v few
