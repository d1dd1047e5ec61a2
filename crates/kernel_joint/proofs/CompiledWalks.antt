-- On the way through a whole list: where an operation stands that is neither the first nor the last, and the width before it.
use Rattle.std.proofs.Common.{◌≡◌, ℕ, ◌+◌, ◌-◌, ◌<◌, true, false, List, [], ◌∷◌, ◌++◌, length, refl, sym, ap, ◌∙◌, arith, subst}
use Rattle.op_list.specs.declared.types.Stage.{Stage}
use Rattle.op_list.specs.declared.types.Stage.TheVariants.{Start, Typed, Ended}
use Rattle.op_list.specs.declared.op.Op.{Op}
use Rattle.op_list.specs.declared.op.Op.TheVariants.{Read, Write, Convert}
use Rattle.op_list.specs.Types.{is_start, is_typed}
use Rattle.op_list.specs.Typing.{may_follow, stage_after, are_typed, is_write}
use Rattle.op_range.specs.declared.width.Width.{Width}
use Rattle.kernel_step.specs.declared.form.Form.{Form}
use Rattle.kernel_step.specs.Forms.{form_at, op_at, stage_before}
use Rattle.kernel_joint.specs.Joint.{IsJoint}
use Rattle.kernel_step.proofs.Kernels.{follows_at, first_whole, stage_more}
use Rattle.kernel_step.proofs.Compiled.{newest}

-- an operation leaves no start
not_start : (stage : Stage) (op : Op) → may_follow stage op ≡ true → is_start (stage_after stage op) ≡ false
unfolding may_follow stage_after
not_start stage (Read elem planes palette) h = refl
not_start stage (Write elem planes) h = refl
not_start stage (Convert to expand) h = refl
not_start Start op h = cc
not_start (Typed elem) op h = refl
not_start Ended op h = cc

typed_there : (stage : Stage) (op : Op) → may_follow stage op ≡ true → is_start stage ≡ false → is_typed stage ≡ true
unfolding may_follow
typed_there (Typed elem) op h other = refl
typed_there Start op h other = cc
typed_there Ended (Read elem planes palette) h other = cc
typed_there Ended (Write elem planes) h other = cc
typed_there Ended op h other = cc

-- the values have a type before an operation that is not the first
pub typed_before : (ops : List Op) (k : ℕ) → are_typed Start ops ≡ true → 0 < k → k < length ops → is_typed (stage_before ops k) ≡ true
typed_before ops k typed some within =
    let last : k - 1 + 1 ≡ k = omega (arith, some) in
    let stage_is : stage_after (stage_before ops (k - 1)) (op_at ops (k - 1)) ≡ stage_before ops k =
    sym (stage_more ops (k - 1) (omega (arith, within))) ∙ ap (stage_before ops) last in
    typed_there (stage_before ops k) (op_at ops k) (follows_at ops k typed within)
    (subst (λ s. is_start s ≡ false) stage_is
    (not_start (stage_before ops (k - 1)) (op_at ops (k - 1)) (follows_at ops (k - 1) typed (omega (arith, within)))))

-- what is read is whole numbers
pub joint_first : (ops : List Op) (form : Form) (width : Width) → are_typed Start ops ≡ true → 0 < length ops → form.count ≡ 4
    → IsJoint (stage_before ops 1) form width
joint_first ops form width typed some count = record {
  count = count;
  extents = λ is. absurd (let no : true ≡ false = sym is ∙ first_whole ops typed some in cc);
}

-- the form that is made last stands last
pub joint_more : (stage : Stage) (forms : List Form) (form : Form) (width : Width) (k : ℕ) → length forms ≡ k → IsJoint stage form width
    → IsJoint stage (form_at (forms ++ form ∷ []) (k + 1 - 1)) width
joint_more stage forms form width k size joint =
    let at : k ≡ k + 1 - 1 = omega arith in
    subst (λ f. IsJoint stage f width) (sym (newest forms form k size) ∙ ap (form_at (forms ++ form ∷ [])) at) joint
