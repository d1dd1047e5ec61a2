use Rattle.std.proofs.Common.{◌≡◌, ◌+◌, arith}
use Rattle.kernel_lane.proofs.lanes.merge_few.Goals as goal

pub returns-clause-set : goal.returns-clause-set
returns-clause-set g c =
    λ k x y z below.
    let lane : 0 + k ≡ k = omega arith in
    rw (lane, c.lanes_at-lanes.ensures.same k y below) at (c.merge_part.ensures.set k x y z below)
