use Rattle.std.proofs.Common.{length, ap, arith}
use Rattle.pix_desc.proofs.ComponentLists.{length-components}
use Rattle.pix_desc.proofs.element_layout.is_elements.Goals as goal

pub element_count-requires : goal.element_count-requires
element_count-requires c = omega (arith, ap length c.components-then-has_aligned.ensures, length-components c.args.desc.now)
