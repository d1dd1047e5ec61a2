use Rattle.std.proofs.Common.{◌≡◌, ◌∙◌, sym, arith}
use Rattle.std.proofs.lemmas.List.{get_or_default}
use Rattle.op_list.specs.declared.op.Op.TheVariants.{SwapBytes, Swizzle}
use Rattle.kernel_step.specs.Forms.{op_at}
use Rattle.kernel_int.proofs.MovedRows.{last_follows, last_follows_swizzle}
use Rattle.kernel_int.proofs.moves.moves_of.Goals as goal

pub moves_with-requires-clause-follows : goal.moves_with-requires-clause-follows
moves_with-requires-clause-follows c =
    last_follows c.args.ops.now c.requires.typed (omega (arith, c.in-len2.len_at_least, c.in-len2.len_below))

pub moves_with-requires-in-len3-clause-follows : goal.moves_with-requires-in-len3-clause-follows
moves_with-requires-in-len3-clause-follows c =
    let ops = c.args.ops.now in
    let from = c.in_ok-order_of-in-len3.field-0.now in
    let second : op_at ops 1 ≡ Swizzle from =
    sym (get_or_default ops 1 _ SwapBytes (omega (arith, c.in-len3.len_at_least))) ∙ sym c.op-item.is ∙ c.in_ok-order_of-in-len3.ensures in
    last_follows_swizzle ops from c.requires.typed (omega (arith, c.in-len3.len_at_least, c.in-len3.len_below)) second
