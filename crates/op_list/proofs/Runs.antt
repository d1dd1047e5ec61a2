-- The exact and the checked run of a list: an operation in front, one part behind another, and operations that form no new fraction.
use Rattle.std.proofs.Common.{◌≡◌, ℕ, Bool, true, false, List, [], ◌∷◌, ◌++◌, refl, sym, ◌∙◌, ap}
use Rattle.std.specs.Prelude.{Option, Some, None}
use Rattle.std.specs.Option.{option_and_then}
use Rattle.std.specs.List.{list_all}
use Rattle.std.proofs.lemmas.Bool.{and_parts}
use Rattle.op_list.specs.declared.types.Stage.{Stage}
use Rattle.op_list.specs.declared.position.PixelPosition.{PixelPosition}
use Rattle.op_list.specs.declared.op.Op.{Op}
use Rattle.op_list.specs.declared.op.Op.TheVariants.{Read, Write, SwapBytes, Unpack, Pack, Clear, LeftShift, RightShift, Swizzle, Convert}
use Rattle.op_list.specs.declared.op.Op.TheVariants.{Dither, Linear, Scale, Min, Max}
use Rattle.op_list.specs.declared.values.Values.{Values}
use Rattle.op_list.specs.Typing.{stage_after, stage_from}
use Rattle.op_list.specs.Apply.{apply}
use Rattle.op_list.specs.Checked.{checked_apply}
use Rattle.op_list.specs.Run.{run_from, checked_run_from}
use Rattle.op_list.proofs.Typed.{stage_from-append}

-- ---- the exact run
pub run_from-cons : (frame : List ℕ) (position : PixelPosition) (stage : Stage) (op : Op) (ops : List Op) (values : Values)
    → run_from frame position stage (op ∷ ops) values
    ≡ run_from frame position (stage_after stage op) ops (apply frame position stage op values)
unfolding run_from
run_from-cons frame position stage op ops values = refl

pub run_from-append : (frame : List ℕ) (position : PixelPosition) (stage : Stage) (front rest : List Op) (values : Values)
    → run_from frame position stage (front ++ rest) values
    ≡ run_from frame position (stage_from stage front) rest (run_from frame position stage front values)
unfolding run_from stage_from
run_from-append frame position stage [] rest values = refl
run_from-append frame position stage (op ∷ front) rest values =
    run_from-append frame position (stage_after stage op) front rest (apply frame position stage op values)

-- three parts
pub run_from-three : (frame : List ℕ) (position : PixelPosition) (stage : Stage) (first second third : List Op) (values : Values)
    → run_from frame position stage (first ++ second ++ third) values
    ≡ run_from frame position (stage_from (stage_from stage first) second) third
    (run_from frame position (stage_from stage first) second (run_from frame position stage first values))
run_from-three frame position stage first second third values =
    run_from-append frame position stage (first ++ second) third values
    ∙ ap (λ s. run_from frame position s third (run_from frame position stage (first ++ second) values))
    (stage_from-append stage first second)
    ∙ ap (run_from frame position (stage_from (stage_from stage first) second) third)
    (run_from-append frame position stage first second values)

-- ---- the checked run
pub run_end : (frame : List ℕ) (position : PixelPosition) (stage : Stage) (values : Values)
    → checked_run_from frame position stage [] values ≡ Some values
unfolding checked_run_from
run_end frame position stage values = refl

pub checked_run_from-cons : (frame : List ℕ) (position : PixelPosition) (stage : Stage) (op : Op) (ops : List Op) (values : Values)
    → checked_run_from frame position stage (op ∷ ops) values
    ≡ option_and_then (λ next. checked_run_from frame position (stage_after stage op) ops next)
    (checked_apply frame position stage op values)
unfolding checked_run_from
checked_run_from-cons frame position stage op ops values = refl

pub run-none : (frame : List ℕ) (position : PixelPosition) (stage : Stage) (op : Op) (ops : List Op) (values : Values)
    → checked_apply frame position stage op values ≡ None → checked_run_from frame position stage (op ∷ ops) values ≡ None
unfolding checked_run_from
run-none frame position stage op ops values is = rw is refl

pub run-some : (frame : List ℕ) (position : PixelPosition) (stage : Stage) (op : Op) (ops : List Op) (values next : Values)
    → checked_apply frame position stage op values ≡ Some next
    → checked_run_from frame position stage (op ∷ ops) values ≡ checked_run_from frame position (stage_after stage op) ops next
unfolding checked_run_from
run-some frame position stage op ops values next is = rw is refl

pub checked_run_from-append : (frame : List ℕ) (position : PixelPosition) (stage : Stage) (front rest : List Op) (values : Values)
    → checked_run_from frame position stage (front ++ rest) values
    ≡ option_and_then (λ next. checked_run_from frame position (stage_from stage front) rest next)
    (checked_run_from frame position stage front values)
unfolding checked_run_from stage_from
checked_run_from-append frame position stage [] rest values = refl
checked_run_from-append frame position stage (op ∷ front) rest values =
    after_both (checked_apply frame position stage op values) _ _ _
    (λ next. checked_run_from-append frame position (stage_after stage op) front rest next)
  where
    after_both : {A B C : Type 0} (o : Option A) (f : A → Option C) (g : A → Option B) (h : B → Option C)
        → ((x : A) → f x ≡ option_and_then h (g x))
        → option_and_then f o ≡ option_and_then h (option_and_then g o)
    after_both None f g h e = refl
    after_both (Some x) f g h e = e x

-- where both parts have the exact answer, so has the list
pub checked_both : (frame : List ℕ) (position : PixelPosition) (stage : Stage) (front rest : List Op) (values : Values)
    → checked_run_from frame position stage front values ≡ Some (run_from frame position stage front values)
    → checked_run_from frame position (stage_from stage front) rest (run_from frame position stage front values)
    ≡ Some (run_from frame position (stage_from stage front) rest (run_from frame position stage front values))
    → checked_run_from frame position stage (front ++ rest) values ≡ Some (run_from frame position stage (front ++ rest) values)
checked_both frame position stage front rest values first second =
    checked_run_from-append frame position stage front rest values
    ∙ ap (λ o. option_and_then (λ next. checked_run_from frame position (stage_from stage front) rest next) o) first
    ∙ second ∙ ap Some (sym (run_from-append frame position stage front rest values))

-- ---- operations that form no new fraction
abbrev pub forms_nothing : Op → Bool
forms_nothing (Read elem planes palette) = true
forms_nothing (Write elem planes) = true
forms_nothing SwapBytes = true
forms_nothing (Unpack widths) = true
forms_nothing (Pack widths) = true
forms_nothing (Clear entries) = true
forms_nothing (LeftShift n) = true
forms_nothing (RightShift n) = true
forms_nothing (Swizzle from) = true
forms_nothing (Convert to expand) = true
forms_nothing (Dither k) = false
forms_nothing (Linear rows) = false
forms_nothing (Scale by) = false
forms_nothing (Min limits) = true
forms_nothing (Max limits) = true

unformed_apply : (frame : List ℕ) (position : PixelPosition) (stage : Stage) (op : Op) (values : Values) → forms_nothing op ≡ true
    → checked_apply frame position stage op values ≡ Some (apply frame position stage op values)
unfolding checked_apply
unformed_apply frame position stage (Dither k) values h = absurd (cc)
unformed_apply frame position stage (Linear rows) values h = absurd (cc)
unformed_apply frame position stage (Scale by) values h = absurd (cc)
unformed_apply frame position stage op values h = refl

-- their checked run has an answer, the exact one
pub unformed_run : (frame : List ℕ) (position : PixelPosition) (stage : Stage) (ops : List Op) (values : Values)
    → list_all forms_nothing ops ≡ true
    → checked_run_from frame position stage ops values ≡ Some (run_from frame position stage ops values)
unfolding checked_run_from run_from
unformed_run frame position stage [] values h = refl
unformed_run frame position stage (op ∷ ops) values h =
    let p = and_parts (forms_nothing op) (list_all forms_nothing ops) h in
    ap (λ o. option_and_then (λ next. checked_run_from frame position (stage_after stage op) ops next) o)
    (unformed_apply frame position stage op values p.0)
    ∙ unformed_run frame position (stage_after stage op) ops (apply frame position stage op values) p.1
