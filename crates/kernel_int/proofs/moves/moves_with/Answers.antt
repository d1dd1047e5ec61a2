use Rattle.std.proofs.Common.{◌≡◌, ◌-◌, ◌≤◌, length, sum, ◌∙◌, sym, ap, arith, false}
use Rattle.std.proofs.lemmas.List.{get_or_default}
use Rattle.op_list.specs.declared.op.Op.TheVariants.{Read, Write, SwapBytes}
use Rattle.kernel_step.specs.Forms.{last_op, op_at}
use Rattle.kernel_planes.specs.Planes.{planes_of}
use Rattle.kernel_step.proofs.Kernels.{at_least_two, written_few}
use Rattle.kernel_int.proofs.MovedRows.{written_type}
use Rattle.kernel_int.proofs.moves.moves_with.Goals as goal

pub bounds-ops-0 : goal.bounds-ops-0
bounds-ops-0 c = let two = at_least_two c.args.ops.now c.requires.whole c.requires.typed in omega (arith, two)

pub overflow_sub-ops : goal.overflow_sub-ops
overflow_sub-ops c = let two = at_least_two c.args.ops.now c.requires.whole c.requires.typed in omega (arith, two)

pub bounds-ops-ops : goal.bounds-ops-ops
bounds-ops-ops c = let two = at_least_two c.args.ops.now c.requires.whole c.requires.typed in omega (arith, two)

pub are_there-requires : goal.are_there-requires
are_there-requires c =
    let ops = c.args.ops.now in
    let two = at_least_two ops c.requires.whole c.requires.typed in
    let last : last_op ops ≡ Write c.in-Write.elem c.in-Write.to =
    sym (get_or_default ops (length ops - 1) _ SwapBytes (omega (arith, two))) ∙ sym c.index-ops-ops.is ∙ c.in-Write.is in
    let few : sum (planes_of (last_op ops)) ≤ 4 = written_few ops c.requires.typed c.requires.whole in
    record { few = rw last at few }

pub returns-then-are_there-clause-first : goal.returns-then-are_there-clause-first
returns-then-are_there-clause-first c =
    let ops = c.args.ops.now in
    let two = at_least_two ops c.requires.whole c.requires.typed in
    sym (get_or_default ops 0 _ SwapBytes (omega (arith, two))) ∙ sym c.index-ops-0.is ∙ c.in_ok-elem.ensures

pub returns-then-are_there-clause-last : goal.returns-then-are_there-clause-last
returns-then-are_there-clause-last c =
    let ops = c.args.ops.now in
    let two = at_least_two ops c.requires.whole c.requires.typed in
    let first : op_at ops 0 ≡ Read c.in_ok-elem.elem c.in_ok-elem.planes.now false =
    sym (get_or_default ops 0 _ SwapBytes (omega (arith, two))) ∙ sym c.index-ops-0.is ∙ c.in_ok-elem.ensures in
    let last : last_op ops ≡ Write c.in-Write.elem c.in-Write.to =
    sym (get_or_default ops (length ops - 1) _ SwapBytes (omega (arith, two))) ∙ sym c.index-ops-ops.is ∙ c.in-Write.is in
    last ∙ ap (λ elem. Write elem c.in-Write.to)
    (written_type c.in_ok-elem.elem c.in-Write.elem c.in_ok-elem.planes.now c.in-Write.to (rw (first, last) at c.requires.follows))
