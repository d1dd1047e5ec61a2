use Rattle.op_list.proofs.Elements.{has_elements, has_palette}
use Rattle.op_list.proofs.read.read_values.Goals as goal

pub palette_colours-requires : goal.palette_colours-requires
palette_colours-requires c = has_palette _ _ _ _ (rw c.if-palette.true at c.requires)

pub elements_of-requires : goal.elements_of-requires
elements_of-requires c = has_elements _ _ _ _ (rw c.if-palette.false at c.requires)
