use Rattle.std.proofs.Common.{◌≡◌, ◌<◌, ◌≤◌, ◌+◌, ◌-◌, ◌*◌, ◌∙◌, inl, ⊎_elim, ap, slice_index, arith}
use Rattle.std.proofs.lemmas.Bool.{cases_lt}
use Rattle.kernel_lane.proofs.pairs.join_fours.Goals as goal

pub returns-clause-set : goal.returns-clause-set
returns-clause-set c =
    λ v j few below.
    let start = c.args.start in
    ⊎_elim
    (λ (low : j < 8).
    c.store_two-2.ensures.kept (start + (4 * j + v)) (inl (omega arith)) ∙ c.store_two.ensures.set (4 * j + v) (omega arith)
    ∙ c.fours_of.ensures.low v j few low)
    (λ (high : 8 ≤ j).
    let there : start + (4 * j + v) ≡ start + 32 + (4 * (j - 8) + v) = omega arith in
    let pixel : 64 * v + (c.args.first + (8 + (j - 8))) ≡ 64 * v + (c.args.first + j) = omega arith in
    ap (slice_index c.store_two-2.new.to) there ∙ c.store_two-2.ensures.set (4 * (j - 8) + v) (omega arith)
    ∙ c.fours_of.ensures.high v (j - 8) few (omega arith) ∙ ap (slice_index c.args.values.now) pixel)
    (cases_lt j 8)
