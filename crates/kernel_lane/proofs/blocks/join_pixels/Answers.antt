use Rattle.std.proofs.Common.{◌≡◌, ◌<◌, ◌≤◌, ◌+◌, ◌-◌, ◌*◌, ⊎_elim, slice_index, ◌∙◌, subst, arith}
use Rattle.std.proofs.lemmas.Bool.{cases_lt}
use Rattle.kernel_lane.proofs.blocks.join_pixels.Goals as goal

pub loop-k-preserved : goal.loop-k-preserved
loop-k-preserved g c =
    λ v i few below.
    let k = c.loop-k.k in
    ⊎_elim
    (λ (old : i < 16 * k). c.join_sixteen.ensures.before v i few old ∙ c.loop-k.invariant v i few old)
    (λ (new : 16 * k ≤ i).
    let there : 16 * k + (i - 16 * k) ≡ i = omega arith in
    subst (λ t. slice_index c.join_sixteen.new.to (g.row.C * t + v) ≡ slice_index c.args.from.now (64 * v + t)) there
    (c.join_sixteen.ensures.set v (i - 16 * k) few (omega arith)))
    (cases_lt i (16 * k))
