use Rattle.std.proofs.Common.{arith}
use Rattle.pix_meaning.proofs.ChannelDepths.{channel_depth_small}
use Rattle.op_build.proofs.limits.greatest.Goals as goal

pub power-requires : goal.power-requires
power-requires c = omega (arith, c.channel_depth.ensures, channel_depth_small c.args.desc.now c.args.c c.requires.valid c.requires.channel)
