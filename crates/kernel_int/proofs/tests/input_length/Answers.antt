use Rattle.std.proofs.Common.{◌≡◌, sym, ap, ◌∙◌, subst}
use Rattle.std.specs.Prelude.{IfSome}
use Rattle.std.proofs.lemmas.List.{get_or_default}
use Rattle.op_list.specs.declared.op.Op.TheVariants.{SwapBytes}
use Rattle.op_list.specs.Pixel.{frame_length}
use Rattle.kernel_step.specs.Forms.{op_at}
use Rattle.kernel_step.proofs.Kernels.{read_length_first}
use Rattle.kernel_int.proofs.tests.input_length.Goals as goal

pub returns : goal.returns
returns c =
    let same : c.index-ops-0.result ≡ op_at c.args.ops.now 0 = c.index-ops-0.is ∙ get_or_default c.args.ops.now 0 _ SwapBytes c.requires in
    subst (λ m. IfSome c.frame_length.result (λ n. n ≡ m))
    (ap (λ o. frame_length o c.args.width c.args.rows) same
    ∙ sym (read_length_first c.args.ops.now c.args.width c.args.rows c.requires)) c.frame_length.ensures
