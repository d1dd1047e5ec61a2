use Rattle.std.proofs.Common.{◌≡◌, ◌<◌, ◌+◌, ◌-◌, [], ◌∷◌, ◌++◌, length, length-append, slice_index, refl, sym, ap, ◌∙◌, arith, subst}
use Rattle.std.proofs.lemmas.List.{get_or_default}
use Rattle.std.proofs.lemmas.Slice.{pushed}
use Rattle.op_list.specs.declared.op.Op.TheVariants.{SwapBytes}
use Rattle.op_list.specs.declared.types.Stage.TheVariants.{Start}
use Rattle.op_list.specs.Typing.{stage_after}
use Rattle.kernel_step.specs.Forms.{AreHeld, IsStep, form_at, no_form, op_at, stage_before, bits_of, width_of}
use Rattle.kernel_step.specs.Forms.{limits_before, limits_in, no_state, state_at}
use Rattle.op_list.specs.Types.{bits_at}
use Rattle.op_range.specs.Ranges.{start_ranges}
use Rattle.op_range.specs.States.{states_of}
use Rattle.kernel_step.proofs.RunLimits.{states_size}
use Rattle.kernel_step.proofs.Kernels.{first_stage, stage_more}
use Rattle.kernel_step.proofs.Compiled.{few_more, steps_more, few_none}
use Rattle.kernel_step.proofs.own_forms.forms_of.Goals as goal

pub loop-k-init : goal.loop-k-init
loop-k-init c =
    let ops = c.args.ops.now in
    let some : 0 < length ops = omega arith in
    let items : c.push.new.self.items ≡ [] ++ (c.whole_form.result ∷ []) =
    pushed (c.whole_form.result ∷ []) c.new-forms.ensures.items c.in_ok-push.was c.push.ensures.items in
    let same : c.index-ops-0.result ≡ op_at ops 0 = c.index-ops-0.is ∙ get_or_default ops 0 _ SwapBytes some in
    record {
      count = ap length items;
      few = rw items (few_more [] c.whole_form.result few_none (omega (arith, c.whole_form.ensures)));
      steps = λ k first below. absurd (omega (arith, first, below));
      stage = c.stage_after-stage.ensures ∙ ap (stage_after Start) same ∙ sym (first_stage ops some);
    }

pub bounds-ranges-k : goal.bounds-ranges-k
bounds-ranges-k c = omega (arith, ap length c.requires.ranges, states_size Start c.args.ops.now start_ranges)

pub loop-k-preserved : goal.loop-k-preserved
loop-k-preserved c =
    let ops = c.args.ops.now in
    let k = c.loop-k.k in
    let within : k < length ops = omega arith in
    let form = c.in-Some.form in
    let items : c.push-in-Some.new.self.items ≡ c.loop-k.forms.items ++ (form ∷ []) =
    pushed (form ∷ []) refl c.in_ok-push-in-Some.was c.push-in-Some.ensures.items in
    let same : c.index-ops-k.result ≡ op_at ops k = c.index-ops-k.is ∙ get_or_default ops k _ SwapBytes within in
    let again : c.index-ops-k-in-loop-k.result ≡ op_at ops k = c.index-ops-k-in-loop-k.is ∙ get_or_default ops k _ SwapBytes within in
    let before : c.index.result.now ≡ form_at c.loop-k.forms.items (k - 1) = c.index.ensures
    ∙ get_or_default c.loop-k.forms.items (k - 1) _ no_form (omega (arith, c.loop-k.invariant.count)) in
    let step : IsStep (bits_of c.args.storage) (width_of c.args.number_width) (stage_before ops k) (form_at c.loop-k.forms.items (k - 1))
    (op_at ops k) form =
    rw (← c.loop-k.invariant.stage, ← before, ← same) c.in-Some.ensures.step in
    let known : k - 1 < length c.args.ranges.now =
    omega (arith, within, ap length c.requires.ranges, states_size Start ops start_ranges) in
    let state : c.index-ranges-k.result ≡ state_at (states_of ops) (k - 1) =
    c.index-ranges-k.is ∙ get_or_default c.args.ranges.now (k - 1) _ no_state known ∙ ap (λ s. state_at s (k - 1)) c.requires.ranges in
    let bits : c.bits.result ≡ bits_at (stage_before ops k) = c.bits.ensures ∙ ap bits_at c.loop-k.invariant.stage in
    let limits : slice_index c.limits_of-limits.result ≡ limits_before ops k =
    c.limits_of-limits.ensures ∙ ap (λ s. slice_index (limits_in s c.bits.result)) state
    ∙ ap (λ b. slice_index (limits_in (state_at (states_of ops) (k - 1)) b)) bits in
    let held : AreHeld (width_of c.args.number_width) (limits_before ops k) (stage_before ops k) (op_at ops k) form =
    subst (λ f. AreHeld (width_of c.args.number_width) f (stage_before ops k) (op_at ops k) form) limits
    (rw (← c.loop-k.invariant.stage, ← same) c.in-Some.ensures.held) in
    record {
      count = ap length items ∙ length-append c.loop-k.forms.items (form ∷ []) ∙ ap (λ n. n + 1) c.loop-k.invariant.count;
      few = rw items (few_more c.loop-k.forms.items form c.loop-k.invariant.few c.in-Some.ensures.few);
      steps = rw items (steps_more ops c.loop-k.forms.items form (bits_of c.args.storage)
          (width_of c.args.number_width) k c.loop-k.invariant.count
          (omega arith) c.loop-k.invariant.steps (record { step = step; held = held }));
      stage = c.stage_after-stage-in-loop-k.ensures ∙ ap (λ s. stage_after s c.index-ops-k-in-loop-k.result) c.loop-k.invariant.stage
          ∙ ap (λ o. stage_after (stage_before ops k) o) again ∙ sym (stage_more ops k within);
    }
