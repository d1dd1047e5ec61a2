use Rattle.std.proofs.Common.{arith}
use Rattle.kernel_step.proofs.DitherSteps.{halves_are_dithers, row_numbers}
use Rattle.kernel_step.proofs.dither.dither_numbers.Goals as goal

pub returns-clause-numbers : goal.returns-clause-numbers
returns-clause-numbers c = row_numbers c.args.k c.args.x c.args.y c.loop-j.numbers c.requires
    (λ j below. c.loop-j.invariant.set j (omega (arith, below)))

pub returns-then-k-eq0-clause-numbers : goal.returns-then-k-eq0-clause-numbers
returns-then-k-eq0-clause-numbers c = halves_are_dithers c.args.k c.args.x c.args.y c.halves.result c.if-k-eq0.true c.halves.ensures.one
