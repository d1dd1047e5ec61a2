use Rattle.std.proofs.Common.{arith}
use Rattle.pix_desc.specs.Frame.{row_start}
use Rattle.pix_desc.proofs.Valid.{laid_out}
use Rattle.pix_io.proofs.Frames.{row_start-inside}
use Rattle.pix_io.proofs.frame.row_start.Goals as goal

pub len_before-requires-clause-laid_out : goal.len_before-requires-clause-laid_out
len_before-requires-clause-laid_out c = laid_out c.args.desc.now c.requires.valid

pub row_len-requires : goal.row_len-requires
row_len-requires c = laid_out c.args.desc.now c.requires.valid

pub returns-clause-inside : goal.returns-clause-inside
unfolding row_start
returns-clause-inside c =
    let inside = row_start-inside c.args.desc.now c.args.width c.args.height c.args.plane c.args.row c.requires.plane c.requires.row in
    grind (arith, inside)
