use Rattle.pix_desc.proofs.Valid.{laid_out}
use Rattle.pix_io.proofs.frame.frame_len.Goals as goal

pub len_before-planes-requires-clause-laid_out : goal.len_before-planes-requires-clause-laid_out
len_before-planes-requires-clause-laid_out c = laid_out c.args.desc.now c.requires.valid
