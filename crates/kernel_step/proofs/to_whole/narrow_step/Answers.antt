use Rattle.std.proofs.Common.{◌+◌, ◌*◌, ap, inl, ◌∙◌, arith, below_more}
use Rattle.op_list.specs.Types.{bits}
use Rattle.kernel_step.specs.Forms.{denominator}
use Rattle.kernel_step.specs.ValueSteps.{AreFloors}
use Rattle.kernel_step.proofs.NarrowSteps.{Floors, narrow_bounded, narrow_performs}
use Rattle.kernel_step.proofs.to_whole.narrow_step.Goals as goal

pub narrow_value-requires-clause-divided : goal.narrow_value-requires-clause-divided
narrow_value-requires-clause-divided g c = (c.requires.narrowed.2 c.loop-v.v (omega arith)).divided

pub narrow_value-requires-clause-old : goal.narrow_value-requires-clause-old
narrow_value-requires-clause-old g c =
    λ i e below. c.requires.bounded.bound c.requires.narrowed.0 c.loop-v.v i e (c.requires.narrowed.2 c.loop-v.v (omega arith)).there below

pub loop-v-preserved : goal.loop-v-preserved
loop-v-preserved g c =
    below_more (λ u. AreFloors g.W.WholeNumber.number g.N.Numerator.value (bits c.args.to) c.args.numbers.now u
    (denominator c.args.before.now u) c.narrow_value.new.values) c.loop-v.v
    (λ u lt i x e within. ap g.W.WholeNumber.number (c.narrow_value.ensures.kept (64 * u + i) x (inl (omega (arith, lt, within)))) ∙
    c.loop-v.invariant u lt i x e within)
    c.narrow_value.ensures.set

pub returns-clause-bounded : goal.returns-clause-bounded
returns-clause-bounded g c =
    let floors : Floors g.W.WholeNumber.number g.N.Numerator.value (bits c.args.to) c.args.before.now c.args.numbers.now c.loop-v.values
    c.args.after.now.count =
    λ v below. c.loop-v.invariant v (omega (arith, below)) in
    narrow_bounded g.W.WholeNumber.number g.N.Numerator.value c.args.stage c.args.to c.args._expand c.args.before.now c.args.after.now
    c.loop-v.values c.args.numbers.now
    c.requires.whole (omega arith) floors

pub returns-clause-holds : goal.returns-clause-holds
returns-clause-holds g c =
    let floors : Floors g.W.WholeNumber.number g.N.Numerator.value (bits c.args.to) c.args.before.now c.args.numbers.now c.loop-v.values
    c.args.after.now.count =
    λ v below. c.loop-v.invariant v (omega (arith, below)) in
    narrow_performs g.W.WholeNumber.number g.N.Numerator.value g.W.WholeNumber.bits g.N.Numerator.width c.args.stage c.args.to
    c.args._expand c.args.before.now c.args.after.now c.args._position.now
    c.args.values.now c.loop-v.values c.args.numbers.now c.requires.whole c.requires.few c.requires.narrowed (omega arith) floors
