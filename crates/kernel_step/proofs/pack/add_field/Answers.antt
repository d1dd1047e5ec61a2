use Rattle.std.proofs.Common.{◌≡◌, ◌+◌, arith}
use Rattle.kernel_step.proofs.pack.add_field.Goals as goal

pub returns-clause-set : goal.returns-clause-set
returns-clause-set g c =
    λ i d below.
    let lane : 0 + i ≡ i = omega arith in
    rw (lane, c.bits_below.ensures) at (c.merge_within.ensures.set i d d d below)
