use Rattle.std.proofs.Common.{refl, ◌∙◌}
use Rattle.op_list.specs.Typing.{may_follow}
use Rattle.op_list.proofs.Applied.{wide_bits, numbers_before, read_pixel, unpack_widths, pack_widths, left_shift, right_shift}
use Rattle.op_list.proofs.Applied.{dither_levels, swizzle_lanes, clear_entries}
use Rattle.op_list.proofs.op.Op.apply.Goals as goal

pub read_values-requires : goal.read_values-requires
read_values-requires c = read_pixel _ _ _ _ _ _ _ (rw c.in-Read.is at c.requires)

pub numbers-requires : goal.numbers-requires
numbers-requires c = numbers_before _ _ _ _ _ (rw c.in-Write.is at c.requires) refl

pub numbers-requires-in-SwapBytes : goal.numbers-requires-in-SwapBytes
numbers-requires-in-SwapBytes c = numbers_before _ _ _ _ _ (rw c.in-SwapBytes.is at c.requires) refl

pub swapped-requires : goal.swapped-requires
unfolding may_follow
swapped-requires c = rw c.bits.ensures (wide_bits c.args.stage (rw c.in-SwapBytes.is at c.requires.follows))

pub numbers-requires-in-Unpack : goal.numbers-requires-in-Unpack
numbers-requires-in-Unpack c = numbers_before _ _ _ _ _ (rw c.in-Unpack.is at c.requires) refl

pub unpacked-requires : goal.unpacked-requires
unpacked-requires c = unpack_widths c.args.stage _ (rw c.in-Unpack.is at c.requires.good)

pub numbers-requires-in-Pack : goal.numbers-requires-in-Pack
numbers-requires-in-Pack c = numbers_before _ _ _ _ _ (rw c.in-Pack.is at c.requires) refl

pub packed-requires : goal.packed-requires
packed-requires c = pack_widths c.args.stage _ (rw c.in-Pack.is at c.requires.good)

pub cleared-requires-clause-fit : goal.cleared-requires-clause-fit
cleared-requires-clause-fit c = λ numbers. rw c.bits-in-Clear.ensures (clear_entries _ _ _ _ _ (rw c.in-Clear.is at c.requires) numbers)

pub numbers-requires-in-LeftShift : goal.numbers-requires-in-LeftShift
numbers-requires-in-LeftShift c = numbers_before _ _ _ _ _ (rw c.in-LeftShift.is at c.requires) refl

pub shifted_left-requires-clause-n : goal.shifted_left-requires-clause-n
shifted_left-requires-clause-n c = rw c.bits-in-LeftShift.ensures (left_shift c.args.stage _ (rw c.in-LeftShift.is at c.requires.good))

pub numbers-requires-in-RightShift : goal.numbers-requires-in-RightShift
numbers-requires-in-RightShift c = numbers_before _ _ _ _ _ (rw c.in-RightShift.is at c.requires) refl

pub shifted_right-requires : goal.shifted_right-requires
shifted_right-requires c = right_shift c.args.stage _ (rw c.in-RightShift.is at c.requires.good)

pub swizzled-requires : goal.swizzled-requires
swizzled-requires c = swizzle_lanes c.args.stage _ (rw c.in-Swizzle.is at c.requires.good)

pub dither_at-requires : goal.dither_at-requires
dither_at-requires c = dither_levels c.args.stage _ (rw c.in-Dither.is at c.requires.good)

pub fractions-requires : goal.fractions-requires
unfolding may_follow
fractions-requires c = c.requires.kind ∙ (rw c.in-Dither.is at c.requires.follows)

pub fractions-requires-in-Linear : goal.fractions-requires-in-Linear
unfolding may_follow
fractions-requires-in-Linear c = c.requires.kind ∙ (rw c.in-Linear.is at c.requires.follows)

pub fractions-requires-in-Scale : goal.fractions-requires-in-Scale
unfolding may_follow
fractions-requires-in-Scale c = c.requires.kind ∙ (rw c.in-Scale.is at c.requires.follows)

pub fractions-requires-in-Min : goal.fractions-requires-in-Min
unfolding may_follow
fractions-requires-in-Min c = c.requires.kind ∙ (rw c.in-Min.is at c.requires.follows)

pub fractions-requires-in-Max : goal.fractions-requires-in-Max
unfolding may_follow
fractions-requires-in-Max c = c.requires.kind ∙ (rw c.in-Max.is at c.requires.follows)
