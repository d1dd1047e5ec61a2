-- The forms of a list, one behind the other.
use Rattle.std.proofs.Common.{◌≡◌, ℕ, ◌+◌, ◌-◌, ◌<◌, ◌≤◌, ⊎_elim, List, [], ◌∷◌, ◌++◌, length, length-append, sym, ap, ◌∙◌, arith, subst}
use Rattle.std.specs.Int.{Width}
use Rattle.std.proofs.lemmas.Bool.{cases_lt}
use Rattle.std.proofs.lemmas.List.{get_or_append_left, get_or-append-add, get_or_past}
use Rattle.op_list.specs.declared.op.Op.{Op}
use Rattle.kernel_step.specs.declared.form.Form.{Form}
use Rattle.kernel_step.specs.Forms.{AreSteps, AreFew, IsStepBelow, form_at, limits_before, no_form, op_at, stage_before}

earlier : (forms : List Form) (form : Form) (k : ℕ) → k < length forms → form_at (forms ++ form ∷ []) k ≡ form_at forms k
earlier forms form k h = get_or_append_left forms (form ∷ []) no_form k h

pub newest : (forms : List Form) (form : Form) (k : ℕ) → length forms ≡ k → form_at (forms ++ form ∷ []) k ≡ form
newest forms form k size =
    let at : length forms + 0 ≡ k = omega (arith, size) in
    ap (form_at (forms ++ form ∷ [])) (sym at) ∙ get_or-append-add forms (form ∷ []) 0 no_form

past : (forms : List Form) (form : Form) (k : ℕ) → length forms < k → form_at (forms ++ form ∷ []) k ≡ no_form
past forms form k h = get_or_past (forms ++ form ∷ []) k no_form (omega (arith, length-append forms (form ∷ []), h))

pub few_more : (forms : List Form) (form : Form) → AreFew forms → form.count ≤ 4 → AreFew (forms ++ form ∷ [])
few_more forms form few small k =
    ⊎_elim
    (λ (h : k < length forms). rw (earlier forms form k h) (few k))
    (λ (le : length forms ≤ k).
    ⊎_elim
    (λ (lt : length forms < k). rw (past forms form k lt) (omega arith))
    (λ (ge : k ≤ length forms). rw (newest forms form k (omega arith)) small)
    (cases_lt (length forms) k))
    (cases_lt k (length forms))

pub steps_kept : (ops : List Op) (forms : List Form) (form : Form) (bits : ℕ) (width : Width) (n : ℕ) → n ≤ length forms
    → AreSteps ops forms bits width n → AreSteps ops (forms ++ form ∷ []) bits width n
steps_kept ops forms form bits width n size steps k some below =
    rw (earlier forms form (k - 1) (omega arith), earlier forms form k (omega arith)) (steps k some below)

pub steps_more : (ops : List Op) (forms : List Form) (form : Form) (bits : ℕ) (width : Width) (n : ℕ) → length forms ≡ n → 0 < n
    → AreSteps ops forms bits width n
    → IsStepBelow bits width (limits_before ops n) (stage_before ops n) (form_at forms (n - 1)) (op_at ops n) form
    → AreSteps ops (forms ++ form ∷ []) bits width (n + 1)
steps_more ops forms form bits width n size first steps step k some below =
    ⊎_elim
    (λ (lt : k < n). steps_kept ops forms form bits width n (omega arith) steps k some lt)
    (λ (ge : n ≤ k).
    let same : n ≡ k = omega (arith, ge, below) in
    subst (λ j. IsStepBelow bits width (limits_before ops j) (stage_before ops j) (form_at (forms ++ form ∷ []) (j - 1)) (op_at ops j)
    (form_at (forms ++ form ∷ []) j)) same
    (rw (earlier forms form (n - 1) (omega arith), newest forms form n size) step))
    (cases_lt k n)

pub few_none : AreFew []
few_none k = omega arith
