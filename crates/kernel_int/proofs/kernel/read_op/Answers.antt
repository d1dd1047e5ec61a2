use Rattle.std.proofs.Common.{◌≡◌, ◌∙◌, arith}
use Rattle.std.proofs.lemmas.List.{get_or_default}
use Rattle.op_list.specs.declared.op.Op.TheVariants.{SwapBytes}
use Rattle.kernel_step.specs.Forms.{op_at}
use Rattle.kernel_step.proofs.Kernels.{at_least_two, first_follows, first_good}
use Rattle.kernel_int.proofs.kernel.read_op.Goals as goal

pub bounds-ops-0 : goal.bounds-ops-0
bounds-ops-0 c = let two = at_least_two c.args.ops.now c.requires.whole c.requires.typed in omega (arith, two)

pub returns-clause-value : goal.returns-clause-value
returns-clause-value c =
    let two = at_least_two c.args.ops.now c.requires.whole c.requires.typed in
    c.index-ops-0.is ∙ get_or_default c.args.ops.now 0 _ SwapBytes (omega (arith, two))

pub returns-clause-follows : goal.returns-clause-follows
returns-clause-follows c =
    let two = at_least_two c.args.ops.now c.requires.whole c.requires.typed in
    let same : c.index-ops-0.result ≡ op_at c.args.ops.now 0 =
    c.index-ops-0.is ∙ get_or_default c.args.ops.now 0 _ SwapBytes (omega (arith, two)) in
    rw same (first_follows c.args.ops.now c.requires.typed (omega (arith, two)))

pub returns-clause-good : goal.returns-clause-good
returns-clause-good c =
    let two = at_least_two c.args.ops.now c.requires.whole c.requires.typed in
    let same : c.index-ops-0.result ≡ op_at c.args.ops.now 0 =
    c.index-ops-0.is ∙ get_or_default c.args.ops.now 0 _ SwapBytes (omega (arith, two)) in
    rw same (first_good c.args.ops.now c.requires.typed (omega (arith, two)))
