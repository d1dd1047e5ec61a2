use Rattle.std.proofs.Common.{sym, ◌∙◌}
use Rattle.kernel_step.proofs.KeptSteps.{convert_whole}
use Rattle.kernel_step.proofs.convert.whole_step.Goals as goal

pub retype_step-requires-clause-before : goal.retype_step-requires-clause-before
retype_step-requires-clause-before g c = convert_whole c.args.stage c.args.to c.args.expand c.requires.follows
    (sym c.is_rational.ensures ∙ c.if-is_rational.false)
