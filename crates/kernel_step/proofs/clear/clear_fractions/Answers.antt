use Rattle.std.proofs.Common.{◌≡◌, ◌+◌, ◌*◌, ap, ◌∙◌, arith, inl, inr, slice_index_or, below_more}
use Rattle.std.specs.Prelude.{None}
use Rattle.std.proofs.lemmas.List.{get_or_default}
use Rattle.op_list.specs.Values.{entry}
use Rattle.kernel_step.specs.Forms.{cleared_numerator, factor, factors_at}
use Rattle.kernel_step.proofs.ClearSteps.{ClearsNumerators, clear_fractions_bounded, clear_fractions_perform}
use Rattle.kernel_step.proofs.clear.clear_fractions.Goals as goal

pub loop-v-preserved : goal.loop-v-preserved
loop-v-preserved g c =
    let is : slice_index_or c.args.entries.now c.loop-v.v c.index-entries-v.result ≡ entry c.args.entries.now c.loop-v.v =
    get_or_default c.args.entries.now c.loop-v.v _ None (omega arith) in
    record {
      set = λ u i d below within.
          below_more
          (λ t. g.N.Numerator.value (slice_index_or c.clear_fraction.new.numbers (64 * t + i) d)
          ≡ cleared_numerator (entry c.args.entries.now t) (factor (factors_at c.args.after.now t) 0)
          (g.N.Numerator.value (slice_index_or c.args.numbers.now (64 * t + i) d))) c.loop-v.v
          (λ t lt. ap g.N.Numerator.value (c.clear_fraction.ensures.kept (64 * t + i) d (inl (omega arith)))
          ∙ c.loop-v.invariant.set t i d lt within)
          (c.clear_fraction.ensures.set i d within
          ∙ ap (λ e. cleared_numerator e (factor (factors_at c.args.after.now c.loop-v.v) 0)
          (g.N.Numerator.value (slice_index_or c.loop-v.numbers (64 * c.loop-v.v + i) d))) is
          ∙ ap (λ x. cleared_numerator (entry c.args.entries.now c.loop-v.v) (factor (factors_at c.args.after.now c.loop-v.v) 0)
          (g.N.Numerator.value x)) (c.loop-v.invariant.rest (64 * c.loop-v.v + i) d (omega arith))) u below;
      rest = λ j d past. c.clear_fraction.ensures.kept j d (inr (omega arith)) ∙ c.loop-v.invariant.rest j d (omega arith);
    }

pub returns-clause-bounded : goal.returns-clause-bounded
returns-clause-bounded g c =
    let clears : ClearsNumerators g.N.Numerator.value c.args.entries.now c.args.after.now c.args.numbers.now c.loop-v.numbers =
    λ v i d below within. c.loop-v.invariant.set v i d (omega arith) within in
    clear_fractions_bounded g.W.WholeNumber.number g.N.Numerator.value g.N.Numerator.width c.args.stage c.args.entries.now c.args.before.now
    c.args.after.now c.args._values.now c.args.numbers.now c.loop-v.numbers
    c.requires.kind c.requires.step clears c.requires.bounded

pub returns-clause-holds : goal.returns-clause-holds
returns-clause-holds g c =
    let clears : ClearsNumerators g.N.Numerator.value c.args.entries.now c.args.after.now c.args.numbers.now c.loop-v.numbers =
    λ v i d below within. c.loop-v.invariant.set v i d (omega arith) within in
    clear_fractions_perform g.W.WholeNumber.number g.N.Numerator.value g.N.Numerator.width c.args.stage c.args.entries.now c.args.before.now
    c.args.after.now c.args._position.now c.args._values.now c.args.numbers.now c.loop-v.numbers
    c.requires.kind c.requires.few c.requires.step clears
