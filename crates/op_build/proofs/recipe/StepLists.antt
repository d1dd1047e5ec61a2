-- The operations of steps that stand one behind the other.
use Rattle.std.proofs.Common.{◌≡◌, ◌<◌, ℕ, ◌+◌, Bool, true, false, List, [], ◌∷◌, ◌++◌, length, take, drop, get_or, Option, Some, None, sym}
use Rattle.std.proofs.Common.{refl, ap, subst, ◌∙◌}
use Rattle.std.proofs.lemmas.List.{append_assoc, take-append-drop, take_more}
use Rattle.op_list.specs.declared.op.Op.{Op}
use Rattle.op_list.specs.Typing.{IsOpList}
use Rattle.op_build.specs.Recipe.{only_if}
use Rattle.op_build.specs.Steps.{step_if, operations}
use Rattle.op_list.proofs.Typed.{front_is_list}

pub operations-append : (first second : List (Option Op)) → operations (first ++ second) ≡ operations first ++ operations second
operations-append [] second = refl
operations-append (None ∷ first) second = operations-append first second
operations-append (Some op ∷ first) second = ap (λ ops. op ∷ ops) (operations-append first second)

-- a step that is there where there is need of it
pub operations-if : (needed : Bool) (op : Op) (steps : List (Option Op))
    → operations (step_if needed op ∷ steps) ≡ only_if needed op ++ operations steps
operations-if true op steps = refl
operations-if false op steps = refl

pub operations-if-if : (needed also : Bool) (op other : Op) (steps : List (Option Op))
    → operations (step_if needed op ∷ step_if also other ∷ steps) ≡ only_if needed op ++ only_if also other ++ operations steps
operations-if-if true true op other steps = refl
operations-if-if true false op other steps = refl
operations-if-if false true op other steps = refl
operations-if-if false false op other steps = refl

-- the operations of two steps between others
pub operations-between : (needed : Bool) (op : Op) (first second : Option Op) (middle : List Op) (steps : List (Option Op))
    → operations (first ∷ second ∷ []) ≡ middle
    → operations (step_if needed op ∷ first ∷ second ∷ steps) ≡ only_if needed op ++ middle ++ operations steps
operations-between needed op first second middle steps is =
    operations-if needed op (first ∷ second ∷ steps)
    ∙ ap (λ ops. only_if needed op ++ ops) (operations-append (first ∷ second ∷ []) steps ∙ ap (λ ops. ops ++ operations steps) is)
    ∙ sym (append_assoc (only_if needed op) middle (operations steps))

-- behind a list, one step more
pub one_step_more : (ops : List Op) (steps : List (Option Op)) (k : ℕ) (step : Option Op) → k < length steps → step ≡ get_or steps k step
    → ops ++ operations (take (k + 1) steps) ≡ ops ++ operations (take k steps) ++ operations (step ∷ [])
one_step_more ops steps k step within is =
    ap (λ front. ops ++ operations front) (take_more steps k step within ∙ ap (λ next. take k steps ++ next ∷ []) (sym is))
    ∙ ap (λ more. ops ++ more) (operations-append (take k steps) (step ∷ []))
    ∙ sym (append_assoc ops (operations (take k steps)) (operations (step ∷ [])))

-- behind a list that all steps may follow, so may the first ones
pub next_is_list : (ops : List Op) (steps : List (Option Op)) (k : ℕ) (step : Option Op) → k < length steps → step ≡ get_or steps k step
    → IsOpList (ops ++ operations steps)
    → IsOpList (ops ++ operations (take k steps) ++ operations (step ∷ []))
next_is_list ops steps k step within here is =
    let front = take (k + 1) steps in
    let rest = drop (k + 1) steps in
    let all : ops ++ operations steps ≡ ops ++ operations front ++ operations rest =
    ap (λ s. ops ++ operations s) (sym (take-append-drop (k + 1) steps))
    ∙ ap (λ more. ops ++ more) (operations-append front rest)
    ∙ sym (append_assoc ops (operations front) (operations rest)) in
    subst IsOpList (one_step_more ops steps k step within here)
    (front_is_list (ops ++ operations front) (operations rest) (subst IsOpList all is))
