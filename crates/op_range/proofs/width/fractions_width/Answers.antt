use Rattle.op_list.proofs.Applied.{dither_levels, swizzle_lanes}
use Rattle.op_range.proofs.width.fractions_width.Goals as goal

pub swizzled-requires : goal.swizzled-requires
swizzled-requires c = swizzle_lanes c.args.stage _ (rw c.in-Swizzle.is at c.requires.good)

pub dithered-requires : goal.dithered-requires
dithered-requires c = dither_levels c.args.stage _ (rw c.in-Dither.is at c.requires.good)
