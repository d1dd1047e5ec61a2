use Rattle.std.proofs.Common.{◌≡◌, ◌+◌, ◌*◌, ◌%◌, inr, arith}
use Rattle.kernel_step.proofs.dither.add_pattern.Goals as goal

pub add_sixteen-requires-clause-fits : goal.add_sixteen-requires-clause-fits
add_sixteen-requires-clause-fits g c =
    λ j d below.
    let v = c.args.v in
    let part = c.loop-part.part in
    let i = 16 * part + j in
    let place : 64 * v + 16 * part + j ≡ 64 * v + i = omega arith in
    let turn : i % 16 ≡ j = omega (arith, below) in
    let fits = rw turn at (c.requires.fits i d (omega (arith, below))) in
    rw (place, c.loop-part.invariant.kept (64 * v + i) d (inr (omega arith))) fits
