-- The typing of a list: an operation in front or at the end, one part behind another, and the fronts of a list.
use Rattle.std.proofs.Common.{◌≡◌, ℕ, ◌+◌, ◌<◌, ◌≤◌, Bool, true, false, ◌&&◌, if◌then◌else◌, List, [], ◌∷◌, ◌++◌, length, length-append}
use Rattle.std.proofs.Common.{refl, sym, ◌∙◌, ap, arith}
use Rattle.std.proofs.lemmas.Bool.{and_parts, and_from}
use Rattle.op_list.specs.declared.types.Stage.{Stage}
use Rattle.op_list.specs.declared.types.Stage.TheVariants.{Start}
use Rattle.op_list.specs.declared.op.Op.{Op}
use Rattle.op_list.specs.Typing.{may_follow, are_good, stage_after, stage_from, stage_of, are_typed, IsOpList, LeavesStage}

-- ---- an operation in front
pub typed_parts : (stage : Stage) (op : Op) (ops : List Op) → are_typed stage (op ∷ ops) ≡ true
    → (may_follow stage op ≡ true) × (are_good stage op ≡ true) × (are_typed (stage_after stage op) ops ≡ true)
unfolding are_typed
typed_parts stage op ops h =
    let p = and_parts (may_follow stage op && are_good stage op) (are_typed (stage_after stage op) ops) h in
    let q = and_parts (may_follow stage op) (are_good stage op) p.0 in
    (q.0, q.1, p.1)

pub typed_from : (stage : Stage) (op : Op) (ops : List Op) → may_follow stage op ≡ true → are_good stage op ≡ true
    → are_typed (stage_after stage op) ops ≡ true → are_typed stage (op ∷ ops) ≡ true
unfolding are_typed
typed_from stage op ops follows good rest =
    and_from (may_follow stage op && are_good stage op) (are_typed (stage_after stage op) ops)
    (and_from (may_follow stage op) (are_good stage op) follows good) rest

pub typed_none : (stage : Stage) → are_typed stage [] ≡ true
unfolding are_typed
typed_none stage = refl

pub stage_from_one : (stage : Stage) (op : Op) → stage_from stage (op ∷ []) ≡ stage_after stage op
unfolding stage_from
stage_from_one stage op = refl

-- ---- one part behind another
pub stage_from-append : (stage : Stage) (front rest : List Op) → stage_from stage (front ++ rest) ≡ stage_from (stage_from stage front) rest
unfolding stage_from
stage_from-append stage [] rest = refl
stage_from-append stage (op ∷ front) rest = stage_from-append (stage_after stage op) front rest

pub and_assoc : (a b c : Bool) → (a && (b && c)) ≡ (a && b && c)
and_assoc true b c = refl
and_assoc false b c = refl

-- the typing of two parts
pub typed_both : (stage : Stage) (front rest : List Op)
    → are_typed stage (front ++ rest) ≡ (are_typed stage front && are_typed (stage_from stage front) rest)
unfolding are_typed stage_from
typed_both stage [] rest = refl
typed_both stage (op ∷ front) rest =
    let first = may_follow stage op && are_good stage op in
    let next = stage_after stage op in
    ap (λ b. first && b) (typed_both next front rest) ∙ and_assoc first (are_typed next front) (are_typed (stage_from next front) rest)

pub are_typed-append : (stage : Stage) (front rest : List Op) → are_typed stage front ≡ true
    → are_typed (stage_from stage front) rest ≡ true
    → are_typed stage (front ++ rest) ≡ true
are_typed-append stage front rest first second =
    typed_both stage front rest ∙ and_from (are_typed stage front) (are_typed (stage_from stage front) rest) first second

pub typed_fronts : (stage : Stage) (front rest : List Op) → are_typed stage (front ++ rest) ≡ true
    → (are_typed stage front ≡ true) × (are_typed (stage_from stage front) rest ≡ true)
typed_fronts stage front rest typed =
    and_parts (are_typed stage front) (are_typed (stage_from stage front) rest) (sym (typed_both stage front rest) ∙ typed)

-- ---- lists of at most 24 operations
pub front_is_list : (front rest : List Op) → IsOpList (front ++ rest) → IsOpList front
front_is_list front rest is =
    record { typed = (typed_fronts Start front rest is.typed).0; size = omega (arith, is.size, length-append front rest) }

-- An operation is taken at the end of a list.
pub record IsTaken (ops : List Op) (op : Op) : Type 0 where
  pub follows : may_follow (stage_of ops) op ≡ true
  pub good : are_good (stage_of ops) op ≡ true
  pub room : length ops < 24

pub last_is_taken : (ops : List Op) (op : Op) → IsOpList (ops ++ op ∷ []) → IsTaken ops op
last_is_taken ops op is =
    let last = typed_parts (stage_of ops) op [] (typed_fronts Start ops (op ∷ []) is.typed).1 in
    record { follows = last.0; good = last.1; room = omega (arith, is.size, length-append ops (op ∷ [])) }

pub pushed : (ops : List Op) (stage : Stage) (op : Op) → LeavesStage ops stage → may_follow stage op ≡ true → are_good stage op ≡ true
    → length ops < 24
    → LeavesStage (ops ++ op ∷ []) (stage_after stage op)
pushed ops stage op h follows good room = record {
  sound = record {
    typed =
        are_typed-append Start ops (op ∷ []) h.sound.typed
        (rw (← h.last) (typed_from stage op [] follows good (typed_none (stage_after stage op))));
    size = omega (arith, length-append ops (op ∷ []));
  };
  last = sym (stage_from-append Start ops (op ∷ []) ∙ (rw (← h.last) (stage_from_one stage op)));
}

-- ---- lists by their stages and sizes

-- A list may follow a stage, leaves another one, and has at most so many operations.
pub record IsTyped (stage : Stage) (ops : List Op) (last : Stage) (most : ℕ) : Type 0 where
  pub typed : are_typed stage ops ≡ true
  pub leaves : stage_from stage ops ≡ last
  pub size : length ops ≤ most

pub no_operations : (stage : Stage) → IsTyped stage [] stage 0
unfolding are_typed stage_from
no_operations stage = record { typed = refl; leaves = refl; size = omega arith }

-- an operation in front
pub one_more : (stage next last : Stage) (op : Op) (ops : List Op) (most : ℕ) → may_follow stage op ≡ true → are_good stage op ≡ true
    → stage_after stage op ≡ next → IsTyped next ops last most → IsTyped stage (op ∷ ops) last (most + 1)
unfolding stage_from
one_more stage next last op ops most follows good after rest = record {
  typed = typed_from stage op ops follows good (ap (λ s. are_typed s ops) after ∙ rest.typed);
  leaves = ap (λ s. stage_from s ops) after ∙ rest.leaves;
  size = omega (arith, rest.size);
}

-- an operation in front, where there is need of it
pub one_more_if : (needed : Bool) (stage last : Stage) (op : Op) (ops : List Op) (most : ℕ) → (needed ≡ true → may_follow stage op ≡ true)
    → are_good stage op ≡ true → stage_after stage op ≡ stage → IsTyped stage ops last most
    → IsTyped stage ((if needed then op ∷ [] else []) ++ ops) last (most + 1)
one_more_if true stage last op ops most follows good after rest = one_more stage stage last op ops most (follows refl) good after rest
one_more_if false stage last op ops most follows good after rest =
    record { typed = rest.typed; leaves = rest.leaves; size = omega (arith, rest.size) }

-- one list behind another
pub both_parts : (stage middle last : Stage) (first second : List Op) (most more : ℕ) → IsTyped stage first middle most
    → IsTyped middle second last more → IsTyped stage (first ++ second) last (most + more)
both_parts stage middle last first second most more front back = record {
  typed = are_typed-append stage first second front.typed (ap (λ s. are_typed s second) front.leaves ∙ back.typed);
  leaves = stage_from-append stage first second ∙ ap (λ s. stage_from s second) front.leaves ∙ back.leaves;
  size = omega (arith, length-append first second, front.size, back.size);
}
