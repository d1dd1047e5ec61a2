use Rattle.std.proofs.Common.{arith}
use Rattle.pix_desc.proofs.PixelSlots.{has_size}
use Rattle.pix_desc.proofs.element_slots.element_index.Goals as goal

pub nonzero_div-in_plane : goal.nonzero_div-in_plane
nonzero_div-in_plane c = omega (arith, c.from.ensures, c.element_bytes.ensures, has_size c.args.desc.now c.requires)
