use Rattle.std.proofs.Common.{◌≡◌, ◌+◌, ◌*◌, ◌<◌, ap, ◌∙◌, arith, inl, slice_index_or, below_more}
use Rattle.kernel_step.proofs.FieldSteps.{Packs, pack_fits, pack_bounded, pack_performs}
use Rattle.kernel_step.proofs.pack.pack_step.Goals as goal

pub pack_fields-requires-clause-fits : goal.pack_fields-requires-clause-fits
pack_fields-requires-clause-fits g c = pack_fits c.args.stage c.args.widths.now g.W.WholeNumber.bits c.requires.good c.requires.stored

pub loop-v-preserved : goal.loop-v-preserved
loop-v-preserved g c = record {
  others = λ u i d some below within.
      below_more (λ t. 0 < t → g.W.WholeNumber.number (slice_index_or c.fill.new.to (64 * t + i) d) ≡ 0) c.loop-v.v
      (λ t lt first. ap g.W.WholeNumber.number (c.fill.ensures.kept (64 * t + i) d (inl (omega arith)))
      ∙ c.loop-v.invariant.others t i d first lt within)
      (λ first. ap g.W.WholeNumber.number (c.fill.ensures.set i d within) ∙ c.narrow.ensures) u below some;
  first = λ i d within. c.fill.ensures.kept i d (inl (omega arith)) ∙ c.loop-v.invariant.first i d within;
}

pub returns-clause-bounded : goal.returns-clause-bounded
returns-clause-bounded g c =
    let packs : Packs g.W.WholeNumber.number c.args.widths.now c.args.after.now.count c.args.values.now c.loop-v.values = record {
      first = λ i d within. ap g.W.WholeNumber.number (c.loop-v.invariant.first i d within) ∙ c.pack_fields.ensures.set i d within;
      others = λ v i d some below within. c.loop-v.invariant.others v i d some (omega arith) within;
    } in
    pack_bounded g.W.WholeNumber.number g.N.Numerator.value c.args.stage c.args.widths.now c.args.before.now c.args.after.now
    c.args.values.now c.loop-v.values c.args._numbers.now
    c.requires.follows c.requires.good (omega arith) packs

pub returns-clause-holds : goal.returns-clause-holds
returns-clause-holds g c =
    let packs : Packs g.W.WholeNumber.number c.args.widths.now c.args.after.now.count c.args.values.now c.loop-v.values = record {
      first = λ i d within. ap g.W.WholeNumber.number (c.loop-v.invariant.first i d within) ∙ c.pack_fields.ensures.set i d within;
      others = λ v i d some below within. c.loop-v.invariant.others v i d some (omega arith) within;
    } in
    pack_performs g.W.WholeNumber.number g.N.Numerator.value c.args.stage c.args.widths.now c.args.before.now c.args.after.now
    c.args._position.now c.args.values.now c.loop-v.values c.args._numbers.now
    c.requires.follows c.requires.good c.requires.few c.requires.step packs
