use Rattle.std.proofs.Common.{arith}
use Rattle.std.proofs.lemmas.Int.{ints}
use Rattle.kernel_step.proofs.Kernels.{some_element}
use Rattle.kernel_affine.proofs.wide.wide_products.Goals as goal

pub wide_value-requires-clause-lows : goal.wide_value-requires-clause-lows
wide_value-requires-clause-lows g c =
    λ j i d small below.
    let some = some_element c.args._values.now (omega arith) in
    let wide = c.requires.wide j i some d (omega (arith, small, c.requires.block.1)) below in
    rw wide.0 (omega (arith, ints), omega (arith, ints, wide.1, c.requires.short.numbers))

pub wide_value-requires-clause-fits : goal.wide_value-requires-clause-fits
wide_value-requires-clause-fits g c =
    λ i d below.
    let some = some_element c.args._values.now (omega arith) in
    let first = c.requires.wide 0 i some d (omega (arith, c.requires.block.1)) below in
    let second = c.requires.wide 1 i some d (omega (arith, c.requires.block.1)) below in
    let third = c.requires.wide 2 i some d (omega (arith, c.requires.block.1)) below in
    rw (first.0, second.0, third.0) (c.requires.fits i some below)

pub returns-clause-set : goal.returns-clause-set
returns-clause-set g c =
    λ i d e below.
    let first = c.requires.wide 0 i d e (omega (arith, c.requires.block.1)) below in
    let second = c.requires.wide 1 i d e (omega (arith, c.requires.block.1)) below in
    let third = c.requires.wide 2 i d e (omega (arith, c.requires.block.1)) below in
    rw (first.0, second.0, third.0) at (c.wide_value.ensures.set i e e below)
