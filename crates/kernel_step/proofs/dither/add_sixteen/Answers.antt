use Rattle.std.proofs.Common.{◌≡◌, ◌+◌, arith, slice_index_or}
use Rattle.std.proofs.lemmas.List.{get_or_default}
use Rattle.kernel_step.proofs.dither.add_sixteen.Goals as goal

pub merge_few-requires-clause-takes : goal.merge_few-requires-clause-takes
merge_few-requires-clause-takes g c =
    λ k x y below.
    let at : slice_index_or c.args.addends.now k x ≡ slice_index_or c.args.addends.now k y =
    get_or_default c.args.addends.now k x y (omega (arith, below)) in
    let lane : 0 + k ≡ k = omega arith in
    rw lane (rw at at (c.requires.fits k x below))

pub returns-clause-set : goal.returns-clause-set
returns-clause-set g c =
    λ j d below.
    let lane : 0 + j ≡ j = omega arith in
    rw lane at (c.merge_few.ensures.set j d d d below)
