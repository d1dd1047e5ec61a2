use Rattle.std.proofs.Common.{◌≡◌, ◌+◌, ◌-◌, ◌*◌, ◌/◌, ◌%◌, ◌++◌, get_or, ap, ◌∙◌, arith}
use Rattle.std.proofs.lemmas.List.{get_or_append_left, get_or-append_right}
use Rattle.std.proofs.lemmas.List.FromFn.{get_or-map-range_with_len}
use Rattle.kernel_lane.proofs.pairs.join_vectors.Goals as goal

pub returns-clause-even : goal.returns-clause-even
returns-clause-even c =
    λ j below.
    let both = c.args.x ++ c.args.y in
    let place : 2 * j / 2 + 16 * (2 * j % 2) ≡ j = omega arith in
    get_or-map-range_with_len (λ t. get_or both (t / 2 + 16 * (t % 2)) 0) 0 32 (2 * j) (2 * j) 0 (omega arith) (omega arith)
    ∙ ap (λ t. get_or both t 0) place ∙ get_or_append_left c.args.x c.args.y 0 j (omega (arith, below, c.requires.sizes.0))

pub returns-clause-odd : goal.returns-clause-odd
returns-clause-odd c =
    λ j below.
    let both = c.args.x ++ c.args.y in
    let place : (2 * j + 1) / 2 + 16 * ((2 * j + 1) % 2) ≡ 16 + j = omega arith in
    let back : 16 + j - 16 ≡ j = omega arith in
    get_or-map-range_with_len (λ t. get_or both (t / 2 + 16 * (t % 2)) 0) 0 32 (2 * j + 1) (2 * j + 1) 0 (omega arith) (omega arith)
    ∙ ap (λ t. get_or both t 0) place
    ∙ get_or-append_right c.args.x c.args.y 16 (16 + j) 0 c.requires.sizes.0 (omega arith) ∙ ap (λ t. get_or c.args.y t 0) back
