use Rattle.std.proofs.Common.{◌≡◌, ◌<◌, ◌∙◌, length, ap, sym, arith}
use Rattle.std.proofs.lemmas.List.{get_or_default}
use Rattle.op_list.specs.declared.op.Op.TheVariants.{SwapBytes}
use Rattle.op_list.specs.declared.types.Stage.TheVariants.{Start}
use Rattle.op_list.specs.Typing.{stage_after}
use Rattle.kernel_step.specs.Forms.{op_at, stage_before}
use Rattle.kernel_step.proofs.Kernels.{first_stage, stage_more}
use Rattle.kernel_affine.proofs.chain.find_chain.Goals as goal

pub loop-at-init : goal.loop-at-init
loop-at-init c =
    let ops = c.args.ops.now in
    let some : 0 < length ops = omega arith in
    let same : c.index-ops-0.result ≡ op_at ops 0 = c.index-ops-0.is ∙ get_or_default ops 0 _ SwapBytes some in
    c.stage_after-stage.ensures ∙ ap (stage_after Start) same ∙ sym (first_stage ops some)

pub loop-at-preserved : goal.loop-at-preserved
loop-at-preserved c =
    let ops = c.args.ops.now in
    let at = c.loop-at.at in
    let within : at < length ops = omega arith in
    let same : c.index-ops-at.result ≡ op_at ops at = c.index-ops-at.is ∙ get_or_default ops at _ SwapBytes within in
    c.stage_after-stage-in-loop-at.ensures ∙ ap (λ s. stage_after s c.index-ops-at.result) c.loop-at.invariant
    ∙ ap (λ o. stage_after (stage_before ops at) o) same ∙ sym (stage_more ops at within)
