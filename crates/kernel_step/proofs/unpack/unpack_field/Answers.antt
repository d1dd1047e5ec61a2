use Rattle.std.proofs.Common.{◌≡◌, ◌+◌, arith}
use Rattle.kernel_step.proofs.unpack.unpack_field.Goals as goal

pub returns-clause-set : goal.returns-clause-set
returns-clause-set g c =
    λ i d below.
    let lane : 0 + i ≡ i = omega arith in
    rw lane at (c.merge_part.ensures.set i d d d below)
