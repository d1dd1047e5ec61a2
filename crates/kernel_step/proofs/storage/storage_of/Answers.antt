use Rattle.std.proofs.Common.{◌≡◌, ◌<◌, ◌+◌, ◌^◌, ◌≤◌, length, ⊎_elim, sym, ap, ◌∙◌, arith, subst, take}
use Rattle.std.proofs.lemmas.Bool.{cases_lt}
use Rattle.std.proofs.lemmas.List.{get_or_default, take_all}
use Rattle.op_list.specs.declared.op.Op.TheVariants.{SwapBytes}
use Rattle.op_list.specs.declared.types.Stage.TheVariants.{Start}
use Rattle.op_list.specs.Types.{bits_at}
use Rattle.op_list.specs.Typing.{stage_after, stage_from}
use Rattle.kernel_step.specs.Forms.{op_at, stage_before, bits_of}
use Rattle.kernel_step.proofs.Kernels.{stage_zero, stage_more}
use Rattle.kernel_step.proofs.storage.storage_of.Goals as goal

pub loop-op-init : goal.loop-op-init
loop-op-init c = record {
  stage = sym (stage_zero c.args.ops.now);
  stored = λ k below.
      let none : 0 ≡ k = omega (arith, below) in
      subst (λ j. 2 ^ bits_at (stage_before c.args.ops.now j) ≤ 256) none (rw (stage_zero c.args.ops.now) (omega arith));
}

pub loop-op-preserved : goal.loop-op-preserved
loop-op-preserved c =
    let ops = c.args.ops.now in
    let k = c.loop-op.op-index in
    let within : k < length ops = omega arith in
    let same : c.op-item.result ≡ op_at ops k = c.op-item.is ∙ get_or_default ops k _ SwapBytes within in
    let stage : c.stage_after-stage.result ≡ stage_before ops (k + 1) =
    c.stage_after-stage.ensures ∙ ap (λ s. stage_after s c.op-item.result) c.loop-op.invariant.stage
    ∙ ap (λ o. stage_after (stage_before ops k) o) same ∙ sym (stage_more ops k within) in
    record {
      stage = stage;
      stored = λ j below.
          ⊎_elim
          (λ (lt : j < k + 1).
          let old = c.loop-op.invariant.stored j (omega (arith, lt)) in omega (arith, old, c.wider-storage.ensures.storage))
          (λ (ge : k + 1 ≤ j).
          let last : k + 1 ≡ j = omega (arith, ge, below) in
          subst (λ t. 2 ^ bits_at (stage_before ops t) ≤ 2 ^ bits_of c.wider-storage.result) last
          (rw (← stage) c.wider-storage.ensures.stage))
          (cases_lt j (k + 1));
    }

pub returns : goal.returns
returns c =
    λ k.
    let ops = c.args.ops.now in
    let all : length ops ≤ c.loop-op.op-index = omega arith in
    ⊎_elim
    (λ (lt : k < length ops). c.loop-op.invariant.stored k (omega (arith, lt)))
    (λ (ge : length ops ≤ k).
    let past : take (length ops) ops ≡ take k ops = take_all (length ops) ops (omega arith) ∙ sym (take_all k ops ge) in
    subst (λ t. 2 ^ bits_at (stage_from Start t) ≤ 2 ^ bits_of c.loop-op.storage) past
    (c.loop-op.invariant.stored (length ops) (omega arith)))
    (cases_lt k (length ops))
