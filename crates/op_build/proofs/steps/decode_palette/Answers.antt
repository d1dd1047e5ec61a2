use Rattle.std.proofs.Common.{sym}
use Rattle.op_build.proofs.decode.Palette.{decode_is}
use Rattle.op_build.proofs.steps.decode_palette.Goals as goal

pub returns : goal.returns
returns c = rw c.missing_codes.ensures (sym (decode_is c.args.desc.now c.requires.palette))
