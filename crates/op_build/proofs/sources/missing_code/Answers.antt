use Rattle.std.proofs.Common.{arith}
use Rattle.pix_meaning.proofs.ChannelDepths.{first_depth_small}
use Rattle.op_build.proofs.sources.missing_code.Goals as goal

pub power-requires : goal.power-requires
power-requires c = omega (arith, c.depth_of-depth.ensures, first_depth_small c.args.desc.now c.requires)

pub power-requires-else-c-eq3 : goal.power-requires-else-c-eq3
power-requires-else-c-eq3 c =
    omega (arith, c.saturating_sub-below.ensures, c.depth_of-depth.ensures, first_depth_small c.args.desc.now c.requires)
