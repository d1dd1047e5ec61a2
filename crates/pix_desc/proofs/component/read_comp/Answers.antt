use Rattle.std.proofs.Common.{arith}
use Rattle.pix_desc.proofs.Valid.{laid_out, inside_row}
use Rattle.pix_desc.proofs.component.read_comp.Goals as goal

pub bounds-desc-j : goal.bounds-desc-j
bounds-desc-j c = omega (arith, (laid_out c.args.desc.now c.requires.valid).most, c.requires.listed)

pub number_at-number-requires : goal.number_at-number-requires
number_at-number-requires c = omega (
  arith,
  inside_row c.args.desc.now c.args.j c.args.x c.args.row.now c.requires.valid c.requires.listed c.requires.inside,
  c.start_of.ensures,
)

pub bits_of-requires : goal.bits_of-requires
bits_of-requires c = (laid_out c.args.desc.now c.requires.valid).bits c.args.j c.requires.listed
