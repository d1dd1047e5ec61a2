use Rattle.std.proofs.Common.{sym, ◌∙◌}
use Rattle.op_list.proofs.Applied.{swizzle_lanes}
use Rattle.kernel_step.proofs.Swizzles.{swizzle_numbers, swizzle_fractions, swizzle_numbers_bounded, swizzle_fractions_bounded}
use Rattle.kernel_step.proofs.swizzle.swizzle_step.Goals as goal

pub swizzle-requires-clause-from : goal.swizzle-requires-clause-from
swizzle-requires-clause-from g c = swizzle_lanes c.args.stage c.args.from.now c.requires.good

pub swizzle-requires-else-is_rational-clause-from : goal.swizzle-requires-else-is_rational-clause-from
swizzle-requires-else-is_rational-clause-from g c = swizzle_lanes c.args.stage c.args.from.now c.requires.good

pub returns-then-is_rational-clause-bounded : goal.returns-then-is_rational-clause-bounded
returns-then-is_rational-clause-bounded g c =
    swizzle_fractions_bounded g.W.WholeNumber.number g.N.Numerator.value c.args.stage c.args.from.now c.args.before.now c.args.after.now
    c.args.values.now c.args.numbers.now _
    (sym c.is_rational.ensures ∙ c.if-is_rational.true) c.requires.step c.swizzle.ensures c.requires.bounded

pub returns-then-is_rational-clause-holds : goal.returns-then-is_rational-clause-holds
returns-then-is_rational-clause-holds g c =
    swizzle_fractions g.W.WholeNumber.number g.N.Numerator.value c.args.stage c.args.from.now c.args.before.now c.args.after.now
    c.args.values.now c.args.numbers.now _ c.args._position.now
    (sym c.is_rational.ensures ∙ c.if-is_rational.true) c.requires.few c.requires.step c.swizzle.ensures

pub returns-else-is_rational-clause-bounded : goal.returns-else-is_rational-clause-bounded
returns-else-is_rational-clause-bounded g c =
    swizzle_numbers_bounded g.W.WholeNumber.number g.N.Numerator.value c.args.stage c.args.from.now c.args.before.now c.args.after.now
    c.args.values.now _ c.args.numbers.now
    (sym c.is_rational.ensures ∙ c.if-is_rational.false) c.requires.step c.swizzle-else-is_rational.ensures c.requires.bounded

pub returns-else-is_rational-clause-holds : goal.returns-else-is_rational-clause-holds
returns-else-is_rational-clause-holds g c =
    swizzle_numbers g.W.WholeNumber.number g.N.Numerator.value c.args.stage c.args.from.now c.args.before.now c.args.after.now
    c.args.values.now _ c.args.numbers.now c.args._position.now
    (sym c.is_rational.ensures ∙ c.if-is_rational.false) c.requires.few c.requires.step c.swizzle-else-is_rational.ensures
