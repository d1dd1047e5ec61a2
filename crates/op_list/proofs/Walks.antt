-- The laws of the walk of a list.
use Rattle.std.proofs.Common.{◌≡◌, ℕ, Bool, true, false, ◌&&◌, List, [], ◌∷◌, ◌++◌, length-append, refl, sym, ◌∙◌, ap, arith}
use Rattle.std.specs.Prelude.{Option, Some, None}
use Rattle.std.specs.Option.{option_and_then}
use Rattle.op_list.specs.declared.types.Stage.{Stage}
use Rattle.op_list.specs.declared.position.PixelPosition.{PixelPosition}
use Rattle.op_list.specs.declared.op.Op.{Op}
use Rattle.op_list.specs.declared.values.Values.{Values}
use Rattle.op_list.specs.Typing.{may_follow, are_good, stage_from, are_typed}
use Rattle.op_list.specs.Apply.{apply}
use Rattle.op_list.specs.Checked.{checked_apply}
use Rattle.op_list.specs.Run.{run_from, checked_run_from}
use Rattle.op_list.specs.Walk.{MayReplace, EveryListWalksInParts, EveryListAppends}
use Rattle.op_list.specs.Walk.{EveryPartIsReplaced, EveryFrontRunsAlike}
use Rattle.op_list.proofs.Typed.{typed_both, typed_fronts, are_typed-append, stage_from-append, stage_from_one}
use Rattle.op_list.proofs.Runs.{run_from-append, checked_run_from-append}

pub walks_in_parts : EveryListWalksInParts
walks_in_parts front rest = record {
  typed = λ stage. typed_both stage front rest;
  leaves = λ stage. stage_from-append stage front rest;
  size = length-append front rest;
  run = λ frame position stage values. run_from-append frame position stage front rest values;
  checked = λ frame position stage values. checked_run_from-append frame position stage front rest values;
}

-- ---- an operation more
and_true : (b : Bool) → (b && true) ≡ b
and_true true = refl
and_true false = refl

one_typed : (stage : Stage) (op : Op) → are_typed stage (op ∷ []) ≡ (may_follow stage op && are_good stage op)
unfolding are_typed
one_typed stage op = and_true (may_follow stage op && are_good stage op)

one_run : (frame : List ℕ) (position : PixelPosition) (stage : Stage) (op : Op) (values : Values)
    → run_from frame position stage (op ∷ []) values ≡ apply frame position stage op values
unfolding run_from
one_run frame position stage op values = refl

one_checked : (frame : List ℕ) (position : PixelPosition) (stage : Stage) (op : Op) (o : Option Values)
    → option_and_then (λ next. checked_run_from frame position stage (op ∷ []) next) o
    ≡ option_and_then (λ next. checked_apply frame position stage op next) o
unfolding checked_run_from
one_checked frame position stage op None = refl
one_checked frame position stage op (Some values) = as_it_is (checked_apply frame position stage op values)
  where
    as_it_is : {A : Type 0} (o : Option A) → option_and_then (λ x. Some x) o ≡ o
    as_it_is None = refl
    as_it_is (Some x) = refl

pub appends_operation : EveryListAppends
appends_operation ops op = record {
  typed = λ stage. typed_both stage ops (op ∷ []) ∙ ap (λ b. are_typed stage ops && b) (one_typed (stage_from stage ops) op);
  leaves = λ stage. stage_from-append stage ops (op ∷ []) ∙ stage_from_one (stage_from stage ops) op;
  size = omega (arith, length-append ops (op ∷ []));
  run = λ frame position stage values. run_from-append frame position stage ops (op ∷ []) values
      ∙ one_run frame position (stage_from stage ops) op (run_from frame position stage ops values);
  checked = λ frame position stage values. checked_run_from-append frame position stage ops (op ∷ []) values
      ∙ one_checked frame position (stage_from stage ops) op (checked_run_from frame position stage ops values);
}

-- ---- a part replaced
replaced_typed : (stage : Stage) (old new rest : List Op) → MayReplace stage old new → are_typed stage (old ++ rest) ≡ true
    → are_typed stage (new ++ rest) ≡ true
replaced_typed stage old new rest may typed =
    let parts = typed_fronts stage old rest typed in
    are_typed-append stage new rest (may.typed parts.0) (ap (λ s. are_typed s rest) may.leaves ∙ parts.1)

replaced_leaves : (stage : Stage) (old new rest : List Op) → MayReplace stage old new
    → stage_from stage (new ++ rest) ≡ stage_from stage (old ++ rest)
replaced_leaves stage old new rest may =
    stage_from-append stage new rest ∙ ap (λ s. stage_from s rest) may.leaves ∙ sym (stage_from-append stage old rest)

pub replaces_part : EveryPartIsReplaced
replaces_part stage front old new rest may = record {
  typed = λ typed.
      (let parts = typed_fronts stage front (old ++ rest) typed in
      are_typed-append stage front (new ++ rest) parts.0 (replaced_typed (stage_from stage front) old new rest may parts.1));
  leaves = stage_from-append stage front (new ++ rest) ∙ replaced_leaves (stage_from stage front) old new rest may
      ∙ sym (stage_from-append stage front (old ++ rest));
  size =
      omega (
        arith,
        may.size,
        length-append front (old ++ rest),
        length-append front
            (new ++ rest),
        length-append old rest,
        length-append new rest,
      );
}

same_then : {A B : Type 0} (o : Option A) (f g : A → Option B) → ((x : A) → o ≡ Some x → f x ≡ g x)
    → option_and_then f o ≡ option_and_then g o
same_then None f g same = refl
same_then (Some x) f g same = same x refl

pub runs_alike : EveryFrontRunsAlike
runs_alike frame position stage front before after values = record {
  run =
      λ same. run_from-append frame position stage front after values ∙ same
      ∙ sym (run_from-append frame position stage front before values);
  checked = λ same. checked_run_from-append frame position stage front after values
      ∙ same_then (checked_run_from frame position stage front values)
      (λ left. checked_run_from frame position (stage_from stage front) after left)
      (λ left. checked_run_from frame position (stage_from stage front) before left) same
      ∙ sym (checked_run_from-append frame position stage front before values);
}
