use Rattle.std.proofs.Common.{arith}
use Rattle.pix_meaning.proofs.ChannelDepths.{channel_depth_small, channel_depth_some}
use Rattle.pix_meaning.proofs.side_levels.channel_levels.Goals as goal

pub levels-requires-clause-some_depth : goal.levels-requires-clause-some_depth
levels-requires-clause-some_depth c =
    omega (arith, c.channel_depth.ensures, channel_depth_some c.args.side.now.desc c.args.c c.requires.valid c.requires.channel)

pub levels-requires-clause-greatest_depth : goal.levels-requires-clause-greatest_depth
levels-requires-clause-greatest_depth c =
    omega (arith, c.channel_depth.ensures, channel_depth_small c.args.side.now.desc c.args.c c.requires.valid c.requires.channel)
