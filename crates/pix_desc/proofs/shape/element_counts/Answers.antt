use Rattle.std.proofs.Common.{arith}
use Rattle.pix_desc.proofs.Valid.{laid_out}
use Rattle.pix_desc.proofs.PixelSlots.{has_size}
use Rattle.pix_desc.proofs.shape.element_counts.Goals as goal

pub components-comps-requires : goal.components-comps-requires
components-comps-requires c = (laid_out c.args.desc.now c.requires).most

pub nonzero_div-result : goal.nonzero_div-result
nonzero_div-result c = omega (arith, c.element_bytes-size.ensures, has_size c.args.desc.now c.requires)

pub nonzero_div-result-2 : goal.nonzero_div-result-2
nonzero_div-result-2 c = omega (arith, c.element_bytes-size.ensures, has_size c.args.desc.now c.requires)

pub nonzero_div-result-3 : goal.nonzero_div-result-3
nonzero_div-result-3 c = omega (arith, c.element_bytes-size.ensures, has_size c.args.desc.now c.requires)

pub nonzero_div-result-4 : goal.nonzero_div-result-4
nonzero_div-result-4 c = omega (arith, c.element_bytes-size.ensures, has_size c.args.desc.now c.requires)
