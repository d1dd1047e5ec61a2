use Rattle.std.proofs.Common.{◌≡◌, ◌+◌, ◌-◌, arith}
use Rattle.kernel_lane.proofs.lanes.merge_lanes.Goals as goal

pub returns-clause-set : goal.returns-clause-set
returns-clause-set g c =
    λ i x y z above below.
    let place : c.args.at + (i - c.args.at) ≡ i = omega (arith, above) in
    rw place at (c.merge_few.ensures.set (i - c.args.at) x y z (omega (arith, above, below)))
