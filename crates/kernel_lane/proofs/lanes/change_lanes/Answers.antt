use Rattle.std.proofs.Common.{◌≡◌, ◌+◌, ◌-◌, arith}
use Rattle.kernel_lane.proofs.lanes.change_lanes.Goals as goal

pub returns-clause-set : goal.returns-clause-set
returns-clause-set g c =
    λ i x above below.
    let place : c.args.at + (i - c.args.at) ≡ i = omega (arith, above) in
    rw place at (c.change_part.ensures.set (i - c.args.at) x (omega (arith, above, below)))
