use Rattle.std.proofs.Common.{◌∙◌, sym, refl, arith}
use Rattle.pix_meaning.specs.Channels.{channel_levels}
use Rattle.op_build.specs.Recipe.{from_codes}
use Rattle.op_build.proofs.convert.LevelSizes.{small_levels}
use Rattle.op_build.proofs.code_values.from_codes.Goals as goal

pub value_step-requires : goal.value_step-requires
value_step-requires c = rw c.side_levels-levels.ensures (small_levels c.args.side.now 0 c.requires (omega arith))

pub returns-then-are_plain : goal.returns-then-are_plain
unfolding from_codes
returns-then-are_plain c =
    let plain = sym (c.are_plain.ensures (channel_levels c.args.side.now) c.side_levels-levels.ensures) ∙ c.if-are_plain.true in
    rw (c.value_step.ensures, c.side_levels-levels.ensures, plain) refl

pub value_step-requires-2 : goal.value_step-requires-2
value_step-requires-2 c = rw c.side_levels-levels.ensures (small_levels c.args.side.now 0 c.requires (omega arith))

pub value_step-requires-3 : goal.value_step-requires-3
value_step-requires-3 c = rw c.side_levels-levels.ensures (small_levels c.args.side.now 1 c.requires (omega arith))

pub value_step-requires-4 : goal.value_step-requires-4
value_step-requires-4 c = rw c.side_levels-levels.ensures (small_levels c.args.side.now 2 c.requires (omega arith))

pub value_step-requires-5 : goal.value_step-requires-5
value_step-requires-5 c = rw c.side_levels-levels.ensures (small_levels c.args.side.now 3 c.requires (omega arith))

pub value_of_zero-requires : goal.value_of_zero-requires
value_of_zero-requires c = rw c.side_levels-levels.ensures (small_levels c.args.side.now 0 c.requires (omega arith))

pub value_of_zero-requires-2 : goal.value_of_zero-requires-2
value_of_zero-requires-2 c = rw c.side_levels-levels.ensures (small_levels c.args.side.now 1 c.requires (omega arith))

pub value_of_zero-requires-3 : goal.value_of_zero-requires-3
value_of_zero-requires-3 c = rw c.side_levels-levels.ensures (small_levels c.args.side.now 2 c.requires (omega arith))

pub value_of_zero-requires-4 : goal.value_of_zero-requires-4
value_of_zero-requires-4 c = rw c.side_levels-levels.ensures (small_levels c.args.side.now 3 c.requires (omega arith))

pub returns : goal.returns
unfolding from_codes
returns c =
    let plain = sym (c.are_plain.ensures (channel_levels c.args.side.now) c.side_levels-levels.ensures) ∙ c.if-are_plain.false in
    rw (
      c.diagonal.ensures,
      c.value_step-2.ensures,
      c.value_step-3.ensures,
      c.value_step-4.ensures,
      c.value_step-5.ensures,
      c.value_of_zero.ensures,
      c.value_of_zero-2.ensures,
      c.value_of_zero-3.ensures,
      c.value_of_zero-4.ensures,
      c.side_levels-levels.ensures,
      plain,
    )
    refl
