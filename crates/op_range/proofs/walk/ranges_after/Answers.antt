use Rattle.op_list.proofs.Applied.{unpack_widths, pack_widths, left_shift, right_shift, dither_levels, swizzle_lanes}
use Rattle.op_range.proofs.walk.ranges_after.Goals as goal

pub unpacked-requires : goal.unpacked-requires
unpacked-requires c = unpack_widths c.args.stage _ (rw c.in-Unpack.is at c.requires.good)

pub packed-requires : goal.packed-requires
packed-requires c = pack_widths c.args.stage _ (rw c.in-Pack.is at c.requires.good)

pub all_shifted_left-requires-clause-n : goal.all_shifted_left-requires-clause-n
all_shifted_left-requires-clause-n c = rw c.bits-in-LeftShift.ensures
    (left_shift c.args.stage _ (rw c.in-LeftShift.is at c.requires.good))

pub all_shifted_right-requires : goal.all_shifted_right-requires
all_shifted_right-requires c = right_shift c.args.stage _ (rw c.in-RightShift.is at c.requires.good)

pub swizzled-requires : goal.swizzled-requires
swizzled-requires c = swizzle_lanes c.args.stage _ (rw c.in-Swizzle.is at c.requires.good)

pub all_dithered-requires : goal.all_dithered-requires
all_dithered-requires c = dither_levels c.args.stage _ (rw c.in-Dither.is at c.requires.good)
