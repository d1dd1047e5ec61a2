use Rattle.std.proofs.Common.{arith}
use Rattle.kernel_step.proofs.RationalSteps.{widened_fit, widened_bounded, widened_performs}
use Rattle.kernel_step.proofs.to_fractions.widen_step.Goals as goal

pub widen-requires-clause-fit : goal.widen-requires-clause-fit
widen-requires-clause-fit g c =
    widened_fit g.W.WholeNumber.number g.N.Numerator.width c.args.stage c.args.expand c.args.before.now c.args.after.now c.args.values.now
    c.requires.widened c.requires.ready

pub returns-clause-bounded : goal.returns-clause-bounded
returns-clause-bounded g c =
    widened_bounded g.W.WholeNumber.number g.N.Numerator.value g.N.Numerator.width c.args.stage c.args.expand c.args.before.now
    c.args.after.now c.args.values.now c.widen.new.numbers
    c.requires.widened c.requires.ready c.requires.few (omega arith) c.widen.ensures

pub returns-clause-holds : goal.returns-clause-holds
returns-clause-holds g c =
    widened_performs g.W.WholeNumber.number g.N.Numerator.value c.args.stage c.args.expand c.args.before.now
    c.args.after.now c.args._position.now c.args.values.now c.args.numbers.now c.widen.new.numbers
    c.requires.widened c.requires.few (omega arith) c.widen.ensures
