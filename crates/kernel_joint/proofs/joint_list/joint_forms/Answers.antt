use Rattle.std.proofs.Common.{◌≡◌, ◌<◌, ◌+◌, ◌-◌, ◌^◌, [], ◌∷◌, ◌++◌, length, length-append, refl, sym, ap, ◌∙◌, arith, subst}
use Rattle.std.proofs.lemmas.List.{get_or_default}
use Rattle.std.proofs.lemmas.Slice.{pushed}
use Rattle.op_list.specs.declared.op.Op.TheVariants.{SwapBytes}
use Rattle.op_list.specs.declared.types.Stage.TheVariants.{Start}
use Rattle.op_list.specs.Typing.{stage_after}
use Rattle.op_range.specs.Width.{width_after, whole_width}
use Rattle.kernel_step.specs.Forms.{AreHeld, IsStep, form_at, no_form, op_at, stage_before, bits_of, width_of}
use Rattle.kernel_joint.specs.Joint.{AreSame, IsJoint, IsSmall}
use Rattle.kernel_step.proofs.Kernels.{first_stage, follows_at, good_at, stage_more, stage_zero, no_write}
use Rattle.kernel_step.proofs.Compiled.{few_more, steps_more, few_none}
use Rattle.kernel_joint.proofs.CompiledWalks.{typed_before, joint_first, joint_more}
use Rattle.op_list.specs.Types.{bits_at}
use Rattle.kernel_step.proofs.RunLimits.{held_below}
use Rattle.kernel_joint.proofs.JointWidths.{start_same, walked_first, walked_more, walked_small, whole_small}
use Rattle.kernel_joint.proofs.joint_list.joint_forms.Goals as goal

pub loop-k-init : goal.loop-k-init
loop-k-init c =
    let ops = c.args.ops.now in
    let typed = c.requires.sound.typed in
    let some : 0 < length ops = omega arith in
    let form = c.whole_form.result in
    let items : c.push.new.self.items ≡ [] ++ (form ∷ []) =
    pushed (form ∷ []) c.new-forms.ensures.items c.in_ok-push.was c.push.ensures.items in
    let same : c.index-ops-0.result ≡ op_at ops 0 = c.index-ops-0.is ∙ get_or_default ops 0 _ SwapBytes some in
    let stage : c.stage_after-stage.result ≡ stage_before ops 1 =
    c.stage_after-stage.ensures ∙ ap (stage_after Start) same ∙ sym (first_stage ops some) in
    let next : AreSame c.whole_width-width.result (width_after (stage_before ops 0) (op_at ops 0) (whole_width 0)) =
    rw (stage_zero ops, c.whole_width-width.ensures) (start_same (op_at ops 0)) in
    let small : IsSmall c.args.number_width c.whole_width-width.result =
    rw c.whole_width-width.ensures (whole_small c.args.number_width Start c.requires.room) in
    record {
      count = ap length items;
      few = rw items (few_more [] form few_none (omega (arith, c.whole_form.ensures)));
      steps = λ k above below. absurd (omega (arith, above, below));
      stage = stage;
      walked = walked_more c.args.number_width ops 0 (whole_width 0) c.whole_width-width.result some
          (walked_first c.args.number_width ops typed c.requires.room) next small;
      joint = rw (stage, items) (joint_first ops form c.whole_width-width.result typed some c.whole_form.ensures);
    }

pub next_width-requires-clause-good : goal.next_width-requires-clause-good
next_width-requires-clause-good c =
    let ops = c.args.ops.now in
    let k = c.loop-k.k in
    let within : k < length ops = omega arith in
    rw (c.loop-k.invariant.stage, c.index-ops-k.is ∙ get_or_default ops k _ SwapBytes within)
    (good_at ops k c.requires.sound.typed within)

pub returns-in_default-clause-none : goal.returns-in_default-clause-none
returns-in_default-clause-none c =
    let ops = c.args.ops.now in
    let k = c.loop-k.k in
    let within : k < length ops = omega arith in
    λ fits same.
    let small : IsSmall c.args.number_width (width_after c.loop-k.stage c.index-ops-k.result c.loop-k.width) =
    rw (c.loop-k.invariant.stage, c.index-ops-k.is ∙ get_or_default ops k _ SwapBytes within)
    (walked_small c.args.number_width ops k c.loop-k.width within c.loop-k.invariant.walked c.requires.room fits) in
    c.next_width.ensures.none small c.in_default.is

pub joint_form-form-requires-clause-typed : goal.joint_form-form-requires-clause-typed
joint_form-form-requires-clause-typed c =
    rw c.loop-k.invariant.stage (typed_before c.args.ops.now c.loop-k.k c.requires.sound.typed (omega arith) (omega arith))

pub joint_form-form-requires-clause-inner : goal.joint_form-form-requires-clause-inner
joint_form-form-requires-clause-inner c =
    let ops = c.args.ops.now in
    let k = c.loop-k.k in
    let within : k < length ops = omega arith in
    rw (c.index-ops-k.is ∙ get_or_default ops k _ SwapBytes within) (no_write ops k c.requires.sound.typed (omega arith))

pub joint_form-form-requires-clause-follows : goal.joint_form-form-requires-clause-follows
joint_form-form-requires-clause-follows c =
    let ops = c.args.ops.now in
    let k = c.loop-k.k in
    let within : k < length ops = omega arith in
    rw (c.loop-k.invariant.stage, c.index-ops-k.is ∙ get_or_default ops k _ SwapBytes within)
    (follows_at ops k c.requires.sound.typed within)

pub joint_form-form-requires-clause-good : goal.joint_form-form-requires-clause-good
joint_form-form-requires-clause-good c =
    let ops = c.args.ops.now in
    let k = c.loop-k.k in
    let within : k < length ops = omega arith in
    rw (c.loop-k.invariant.stage, c.index-ops-k.is ∙ get_or_default ops k _ SwapBytes within)
    (good_at ops k c.requires.sound.typed within)

pub joint_form-form-requires-clause-stored : goal.joint_form-form-requires-clause-stored
joint_form-form-requires-clause-stored c =
    let ops = c.args.ops.now in
    let k = c.loop-k.k in
    let within : k < length ops = omega arith in
    rw (c.loop-k.invariant.stage, c.index-ops-k.is ∙ get_or_default ops k _ SwapBytes within, ← stage_more ops k within)
    (c.requires.stored (k + 1))

pub loop-k-preserved : goal.loop-k-preserved
loop-k-preserved c =
    let ops = c.args.ops.now in
    let k = c.loop-k.k in
    let forms = c.loop-k.forms.items in
    let old = c.loop-k.invariant in
    let within : k < length ops = omega arith in
    let form = c.joint_form-form.result in
    let items : c.push-in-loop-k.new.self.items ≡ forms ++ (form ∷ []) =
    pushed (form ∷ []) refl c.in_ok-push-2.was c.push-in-loop-k.ensures.items in
    let same : c.index-ops-k.result ≡ op_at ops k = c.index-ops-k.is ∙ get_or_default ops k _ SwapBytes within in
    let before : c.index.result.now ≡ form_at forms (k - 1) = c.index.ensures
    ∙ get_or_default forms (k - 1) _ no_form (omega (arith, old.count)) in
    let step : IsStep (bits_of c.args.storage) (width_of c.args.number_width) (stage_before ops k) (form_at forms (k - 1))
    (op_at ops k) form =
    rw (← old.stage, ← before, ← same) c.joint_form-form.ensures.step in
    let held : AreHeld (width_of c.args.number_width) (λ v. 2 ^ bits_at (stage_before ops k)) (stage_before ops k) (op_at ops k) form =
    rw (← old.stage, ← same) c.joint_form-form.ensures.held in
    let stage : c.stage_after-stage-in-loop-k.result ≡ stage_before ops (k + 1) =
    c.stage_after-stage-in-loop-k.ensures ∙ ap (λ s. stage_after s c.index-ops-k.result) old.stage
    ∙ ap (λ o. stage_after (stage_before ops k) o) same ∙ sym (stage_more ops k within) in
    let next : AreSame c.in-Some.next (width_after (stage_before ops k) (op_at ops k) c.loop-k.width) =
    rw (← old.stage, ← same) c.in-Some.ensures.same in
    let joint : IsJoint c.stage_after-stage-in-loop-k.result form c.in-Some.next =
    rw c.stage_after-stage-in-loop-k.ensures c.joint_form-form.ensures.joint in
    record {
      count = ap length items ∙ length-append forms (form ∷ []) ∙ ap (λ n. n + 1) old.count;
      few = rw items (few_more forms form old.few c.joint_form-form.ensures.few);
      steps = rw items (steps_more ops forms form (bits_of c.args.storage) (width_of c.args.number_width) k old.count
          (omega arith) old.steps (record { step = step; held = held_below (width_of c.args.number_width) ops k form held }));
      stage = stage;
      walked = walked_more c.args.number_width ops k c.loop-k.width c.in-Some.next within old.walked next c.in-Some.ensures.small;
      joint = rw items (joint_more c.stage_after-stage-in-loop-k.result forms form c.in-Some.next k old.count joint);
    }

pub returns-clause-few : goal.returns-clause-few
returns-clause-few c =
    let form = c.whole_form-2.result in
    let items : c.push-2.new.self.items ≡ c.loop-k.forms.items ++ (form ∷ []) =
    pushed (form ∷ []) refl c.in_ok-push-3.was c.push-2.ensures.items in
    rw items (few_more c.loop-k.forms.items form c.loop-k.invariant.few (omega (arith, c.whole_form-2.ensures)))
