use Rattle.frame_slices.proofs.PlaneParts.{area_small}
use Rattle.frame_slices.proofs.frame_slice.plane_at.Goals as goal
use Rattle.std.proofs.Common.{arith}

pub returns-then-plane-lt4-clause-small : goal.returns-then-plane-lt4-clause-small
returns-then-plane-lt4-clause-small c = area_small c.args.width c.args.rows c.frame_len-all.result c.row_start.result c.requires.width
    c.requires.rows c.frame_len-all.ensures.bound (omega (arith, c.row_start.ensures.inside, c.frame_len-all.ensures.value))
