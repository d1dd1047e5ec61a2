use Rattle.std.proofs.Common.{◌+◌, ◌*◌, ◌∙◌, inl, inr, refl, sym, arith, below_more}
use Rattle.kernel_planes.specs.Block.{pixel_at}
use Rattle.kernel_step.specs.Forms.{extent_at}
use Rattle.kernel_step.specs.ValueSteps.{MakesValue, makes}
use Rattle.kernel_step.proofs.ValueBlocks.{Makes, by_value_rational, made_bounded, made_performs, made_same}
use Rattle.kernel_step.proofs.value_step.value_step.Goals as goal

pub make_value-requires-clause-old : goal.make_value-requires-clause-old
make_value-requires-clause-old g c =
    let rational = by_value_rational c.args.stage c.args.op.now c.requires.kind c.requires.follows in
    λ i d below.
    rw (c.loop-v.invariant.rest (64 * c.loop-v.v + i) d (omega arith))
    (c.requires.bounded.bound rational c.loop-v.v i d (c.requires.step c.loop-v.v (omega arith)).0 below)

pub loop-v-preserved : goal.loop-v-preserved
loop-v-preserved g c =
    let value = g.N.Numerator.value in
    let first = c.args.numbers.now in
    let new = c.make_value.new.numbers in
    let op = c.args.op.now in
    let v = c.loop-v.v in
    record {
      made = below_more (λ u. MakesValue value first new u (extent_at c.args.before.now u) (extent_at c.args.after.now u)
          (λ i x. makes op u (pixel_at c.args.position.now i) x)) v
          (λ u below. made_same value first c.loop-v.numbers first new u (extent_at c.args.before.now u) (extent_at c.args.after.now u)
          (λ i x. makes op u (pixel_at c.args.position.now i) x)
          (λ i d within. refl) (λ i d within. c.make_value.ensures.kept (64 * u + i) d (inl (omega (arith, below, within))))
          (c.loop-v.invariant.made u below))
          (made_same value c.loop-v.numbers new first new v (extent_at c.args.before.now v) (extent_at c.args.after.now v)
          (λ i x. makes op v (pixel_at c.args.position.now i) x)
          (λ i d within. sym (c.loop-v.invariant.rest (64 * v + i) d (omega arith))) (λ i d within. refl) c.make_value.ensures.made);
      rest = λ j d past. c.make_value.ensures.kept j d (inr (omega (arith, past))) ∙ c.loop-v.invariant.rest j d (omega (arith, past));
    }

pub returns-clause-bounded : goal.returns-clause-bounded
returns-clause-bounded g c =
    let each : Makes g.N.Numerator.value c.args.before.now c.args.op.now c.args.after.now c.args.position.now c.args.numbers.now
    c.loop-v.numbers c.args.after.now.count =
    λ v below. c.loop-v.invariant.made v (omega (arith, below)) in
    made_bounded g.W.WholeNumber.number g.N.Numerator.value c.args.stage c.args.op.now c.args.before.now c.args.after.now
    c.args.position.now c.args._values.now c.args.numbers.now c.loop-v.numbers
    c.requires.kind (by_value_rational c.args.stage c.args.op.now c.requires.kind c.requires.follows) each

pub returns-clause-holds : goal.returns-clause-holds
returns-clause-holds g c =
    let each : Makes g.N.Numerator.value c.args.before.now c.args.op.now c.args.after.now c.args.position.now c.args.numbers.now
    c.loop-v.numbers c.args.after.now.count =
    λ v below. c.loop-v.invariant.made v (omega (arith, below)) in
    made_performs g.W.WholeNumber.number g.N.Numerator.value g.N.Numerator.width c.args.stage c.args.op.now c.args.before.now
    c.args.after.now c.args.position.now c.args._values.now c.args.numbers.now
    c.loop-v.numbers c.requires.kind (by_value_rational c.args.stage c.args.op.now c.requires.kind c.requires.follows) c.requires.few
    c.requires.step each
