use Rattle.std.proofs.Common.{◌≡◌, ◌<◌, ◌+◌, ◌*◌, ◌^◌, ap, ◌∙◌, arith, inl, inr, sym, subst, slice_index_or, below_more}
use Rattle.std.specs.Prelude.{IfSome, None, unsigned_abs}
use Rattle.std.proofs.lemmas.List.{get_or_default}
use Rattle.op_list.specs.Values.{entry}
use Rattle.op_list.specs.Apply.{cleared_number}
use Rattle.kernel_step.proofs.ClearSteps.{Clears, entry_fits_both, clear_numbers_bounded, clear_numbers_perform}
use Rattle.kernel_step.proofs.clear.clear_numbers.Goals as goal

pub clear_number-requires-clause-fits : goal.clear_number-requires-clause-fits
clear_number-requires-clause-fits g c =
    let is : slice_index_or c.args.entries.now c.loop-v.v c.index-entries-v.result ≡ entry c.args.entries.now c.loop-v.v =
    get_or_default c.args.entries.now c.loop-v.v _ None (omega arith) in
    subst (λ e. IfSome e (λ x. (unsigned_abs x.numerator < 2 ^ 32) × (unsigned_abs x.numerator < 2 ^ g.W.WholeNumber.bits))) (sym is)
    (entry_fits_both c.args.stage c.args.entries.now c.loop-v.v g.W.WholeNumber.bits c.requires.kind c.requires.good c.requires.stored)

pub loop-v-preserved : goal.loop-v-preserved
loop-v-preserved g c =
    let is : slice_index_or c.args.entries.now c.loop-v.v c.index-entries-v.result ≡ entry c.args.entries.now c.loop-v.v =
    get_or_default c.args.entries.now c.loop-v.v _ None (omega arith) in
    record {
      set = λ u i d below within.
          below_more
          (λ t. g.W.WholeNumber.number (slice_index_or c.clear_number.new.values (64 * t + i) d)
          ≡ cleared_number (entry c.args.entries.now t) (g.W.WholeNumber.number (slice_index_or c.args.values.now (64 * t + i) d)))
          c.loop-v.v
          (λ t lt. ap g.W.WholeNumber.number (c.clear_number.ensures.kept (64 * t + i) d (inl (omega arith)))
          ∙ c.loop-v.invariant.set t i d lt within)
          (c.clear_number.ensures.set i d within
          ∙ ap (λ e. cleared_number e (g.W.WholeNumber.number (slice_index_or c.loop-v.values (64 * c.loop-v.v + i) d))) is
          ∙ ap (λ x. cleared_number (entry c.args.entries.now c.loop-v.v) (g.W.WholeNumber.number x))
          (c.loop-v.invariant.rest (64 * c.loop-v.v + i) d (omega arith))) u below;
      rest = λ j d past. c.clear_number.ensures.kept j d (inr (omega arith)) ∙ c.loop-v.invariant.rest j d (omega arith);
    }

pub returns-clause-bounded : goal.returns-clause-bounded
returns-clause-bounded g c =
    let clears : Clears g.W.WholeNumber.number c.args.entries.now c.args.after.now.count c.args.values.now c.loop-v.values =
    λ v i d below within. c.loop-v.invariant.set v i d (omega arith) within in
    clear_numbers_bounded g.W.WholeNumber.number g.N.Numerator.value g.N.Numerator.width c.args.stage c.args.entries.now c.args.before.now
    c.args.after.now c.args.values.now c.loop-v.values c.args._numbers.now
    c.requires.kind c.requires.good c.requires.step clears c.requires.bounded

pub returns-clause-holds : goal.returns-clause-holds
returns-clause-holds g c =
    let clears : Clears g.W.WholeNumber.number c.args.entries.now c.args.after.now.count c.args.values.now c.loop-v.values =
    λ v i d below within. c.loop-v.invariant.set v i d (omega arith) within in
    clear_numbers_perform g.W.WholeNumber.number g.N.Numerator.value g.N.Numerator.width c.args.stage c.args.entries.now c.args.before.now
    c.args.after.now c.args._position.now c.args.values.now c.loop-v.values c.args._numbers.now
    c.requires.kind c.requires.few c.requires.step clears
