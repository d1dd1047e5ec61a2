use Rattle.std.proofs.Common.{◌≡◌, ◌+◌, ◌*◌, ap, inl, slice_index_or, ◌∙◌, arith, below_more}
use Rattle.kernel_step.specs.Rules.{row_sum, lane_numbers}
use Rattle.kernel_step.specs.Forms.{factors_at}
use Rattle.kernel_step.proofs.RationalSteps.{Sums, rows_bounded, rows_perform, linear_rational}
use Rattle.kernel_step.proofs.linear.linear_step.Goals as goal

pub row_of_sums-requires-clause-fits : goal.row_of_sums-requires-clause-fits
row_of_sums-requires-clause-fits g c =
    λ i d below.
    (c.requires.step c.loop-v.v (omega arith)).fits (lane_numbers g.N.Numerator.value c.args.numbers.now i d)
    (λ j some. c.requires.bounded.bound (linear_rational c.args.stage c.args._rows.now c.requires.follows) j i d some below)

pub row_of_sums-requires-clause-within : goal.row_of_sums-requires-clause-within
row_of_sums-requires-clause-within g c = c.requires.bounded.bound (linear_rational c.args.stage c.args._rows.now c.requires.follows)

pub loop-v-preserved : goal.loop-v-preserved
loop-v-preserved g c =
    λ v i d below within.
    below_more (λ u. g.N.Numerator.value (slice_index_or c.row_of_sums.new.sums (64 * u + i) d)
    ≡ row_sum (factors_at c.args.after.now u) (lane_numbers g.N.Numerator.value c.args.numbers.now i d) 4) c.loop-v.v
    (λ u lt. ap g.N.Numerator.value (c.row_of_sums.ensures.kept (64 * u + i) d (inl (omega arith))) ∙ c.loop-v.invariant u i d lt within)
    (c.row_of_sums.ensures.set i d within) v below

pub returns-clause-bounded : goal.returns-clause-bounded
returns-clause-bounded g c =
    let sums : Sums g.N.Numerator.value c.args.after.now c.args.numbers.now c.copy_front.new.to =
    λ v i d below within. ap g.N.Numerator.value (c.copy_front.ensures (64 * v + i) d (omega arith))
    ∙ c.loop-v.invariant v i d (omega arith) within in
    rows_bounded g.W.WholeNumber.number g.N.Numerator.value g.N.Numerator.width c.args.stage c.args._rows.now c.args.before.now
    c.args.after.now c.args._values.now c.args.numbers.now c.copy_front.new.to
    (linear_rational c.args.stage c.args._rows.now c.requires.follows) c.requires.step sums c.requires.bounded

pub returns-clause-holds : goal.returns-clause-holds
returns-clause-holds g c =
    let sums : Sums g.N.Numerator.value c.args.after.now c.args.numbers.now c.copy_front.new.to =
    λ v i d below within. ap g.N.Numerator.value (c.copy_front.ensures (64 * v + i) d (omega arith))
    ∙ c.loop-v.invariant v i d (omega arith) within in
    rows_perform g.W.WholeNumber.number g.N.Numerator.value g.N.Numerator.width c.args.stage c.args._rows.now c.args.before.now
    c.args.after.now c.args._position.now c.args._values.now c.args.numbers.now c.copy_front.new.to
    (linear_rational c.args.stage c.args._rows.now c.requires.follows) c.requires.few c.requires.step sums c.requires.bounded
