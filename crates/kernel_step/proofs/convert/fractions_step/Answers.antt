use Rattle.std.proofs.Common.{sym, ◌∙◌, refl}
use Rattle.op_list.specs.declared.types.PixType.TheVariants.{Rat}
use Rattle.kernel_step.proofs.KeptSteps.{convert_rational, kept_bounded, kept_performs}
use Rattle.kernel_step.proofs.convert.fractions_step.Goals as goal

pub returns-else-is_whole-clause-bounded : goal.returns-else-is_whole-clause-bounded
returns-else-is_whole-clause-bounded g c =
    let kind = convert_rational c.args.stage Rat c.args.expand c.requires.follows (sym c.is_whole.ensures ∙ c.if-is_whole.false) in
    kept_bounded g.W.WholeNumber.number g.N.Numerator.value c.args.stage c.args.expand c.args.before.now c.args.after.now c.args.values.now
    c.args.numbers.now kind (c.requires.step.same kind refl) c.requires.bounded

pub returns-else-is_whole-clause-holds : goal.returns-else-is_whole-clause-holds
returns-else-is_whole-clause-holds g c =
    let kind = convert_rational c.args.stage Rat c.args.expand c.requires.follows (sym c.is_whole.ensures ∙ c.if-is_whole.false) in
    kept_performs g.W.WholeNumber.number g.N.Numerator.value c.args.stage c.args.expand c.args.before.now c.args.after.now
    c.args.position.now c.args.values.now c.args.numbers.now kind (c.requires.step.same kind refl)
