use Rattle.std.proofs.Common.{◌≡◌, ◌-◌, length, ap, ◌∙◌, subst, arith}
use Rattle.std.specs.Prelude.{IfSome}
use Rattle.std.proofs.lemmas.List.{get_or_default}
use Rattle.op_list.specs.declared.op.Op.TheVariants.{SwapBytes}
use Rattle.op_list.specs.Pixel.{frame_length}
use Rattle.kernel_step.specs.Forms.{last_op}
use Rattle.kernel_int.proofs.tests.output_length.Goals as goal

pub returns : goal.returns
returns c =
    let same : c.index-ops-ops.result ≡ last_op c.args.ops.now = c.index-ops-ops.is
    ∙ get_or_default c.args.ops.now (length c.args.ops.now - 1) _ SwapBytes (omega arith) in
    subst (λ m. IfSome c.frame_length.result (λ n. n ≡ m)) (ap (λ o. frame_length o c.args.width c.args.rows) same) c.frame_length.ensures
