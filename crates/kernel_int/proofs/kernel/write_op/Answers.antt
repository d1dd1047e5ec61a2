use Rattle.std.proofs.Common.{◌≡◌, ◌-◌, length, ◌∙◌, arith}
use Rattle.std.proofs.lemmas.List.{get_or_default}
use Rattle.op_list.specs.declared.op.Op.TheVariants.{SwapBytes}
use Rattle.kernel_step.specs.Forms.{last_op}
use Rattle.kernel_int.proofs.CutRows.{write_has_planes}
use Rattle.kernel_step.proofs.Kernels.{at_least_two, last_good, last_writes}
use Rattle.kernel_int.proofs.kernel.write_op.Goals as goal

pub overflow_sub-result : goal.overflow_sub-result
overflow_sub-result c = let two = at_least_two c.args.ops.now c.requires.whole c.requires.typed in omega (arith, two)

pub bounds-ops-ops : goal.bounds-ops-ops
bounds-ops-ops c = let two = at_least_two c.args.ops.now c.requires.whole c.requires.typed in omega (arith, two)

pub returns-clause-value : goal.returns-clause-value
returns-clause-value c =
    let two = at_least_two c.args.ops.now c.requires.whole c.requires.typed in
    c.index-ops-ops.is ∙ get_or_default c.args.ops.now (length c.args.ops.now - 1) _ SwapBytes (omega (arith, two))

pub returns-clause-planes : goal.returns-clause-planes
returns-clause-planes c =
    let two = at_least_two c.args.ops.now c.requires.whole c.requires.typed in
    let same : c.index-ops-ops.result ≡ last_op c.args.ops.now =
    c.index-ops-ops.is ∙ get_or_default c.args.ops.now (length c.args.ops.now - 1) _ SwapBytes (omega (arith, two)) in
    rw same (write_has_planes (last_op c.args.ops.now) (last_writes c.args.ops.now c.requires.whole))

pub returns-clause-good : goal.returns-clause-good
returns-clause-good c =
    let two = at_least_two c.args.ops.now c.requires.whole c.requires.typed in
    let same : c.index-ops-ops.result ≡ last_op c.args.ops.now =
    c.index-ops-ops.is ∙ get_or_default c.args.ops.now (length c.args.ops.now - 1) _ SwapBytes (omega (arith, two)) in
    rw same (last_good c.args.ops.now c.requires.typed c.requires.whole (omega (arith, two)))
