use Rattle.std.proofs.Common.{◌≡◌, ◌+◌, ◌*◌, ◌/◌, ◌%◌, arith}
use Rattle.kernel_affine.proofs.wide.widen.Goals as goal

pub merge_front-requires-clause-takes : goal.merge_front-requires-clause-takes
merge_front-requires-clause-takes g c =
    λ j x y below.
    let place : 64 * (j / 64) + j % 64 ≡ j = omega arith in
    rw place at (c.requires.fitting (j / 64) (j % 64) y (omega (arith, below)) (omega arith))

pub returns : goal.returns
returns g c = λ j i d e small below. c.merge_front.ensures.set (64 * j + i) e d e (omega (arith, small, below))
