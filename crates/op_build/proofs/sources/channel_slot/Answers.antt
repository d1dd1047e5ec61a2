use Rattle.std.proofs.Common.{◌∙◌, sym, arith}
use Rattle.pix_meaning.proofs.ChannelCodes.{channel_listed}
use Rattle.op_build.proofs.sources.channel_slot.Goals as goal

pub position_of-requires-clause-listed : goal.position_of-requires-clause-listed
position_of-requires-clause-listed c =
    omega (
      arith,
      c.component_at.ensures,
      channel_listed c.args.desc.now c.args.c c.requires.valid c.requires.plain c.requires.channel
          (sym c.has_channel.ensures ∙ c.if-has_channel.true),
    )
