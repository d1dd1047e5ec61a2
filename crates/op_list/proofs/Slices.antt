-- A typed list by its first operation and the others, as code takes a slice apart.
use Rattle.std.proofs.Common.{◌≡◌, ◌-◌, ◌≤◌, true, List, [], ◌∷◌, length, get_or, take, drop, ◌∙◌, ap, arith}
use Rattle.std.proofs.lemmas.List.{take_all}
use Rattle.op_list.specs.declared.types.Stage.{Stage}
use Rattle.op_list.specs.declared.op.Op.{Op}
use Rattle.op_list.specs.Typing.{may_follow, are_good, stage_after, are_typed}
use Rattle.op_list.proofs.Typed.{typed_parts}

pub first_follows : (stage : Stage) (ops : List Op) (op : Op) → 1 ≤ length ops → op ≡ get_or ops 0 op → are_typed stage ops ≡ true
    → may_follow stage op ≡ true
first_follows stage [] op some is typed = absurd (omega arith)
first_follows stage (first ∷ rest) op some is typed = ap (may_follow stage) is ∙ (typed_parts stage first rest typed).0

pub first_good : (stage : Stage) (ops : List Op) (op : Op) → 1 ≤ length ops → op ≡ get_or ops 0 op → are_typed stage ops ≡ true
    → are_good stage op ≡ true
first_good stage [] op some is typed = absurd (omega arith)
first_good stage (first ∷ rest) op some is typed = ap (are_good stage) is ∙ (typed_parts stage first rest typed).1

pub others_typed : (stage after : Stage) (ops : List Op) (op : Op) → 1 ≤ length ops → op ≡ get_or ops 0 op → are_typed stage ops ≡ true
    → after ≡ stage_after stage op → are_typed after (take (length ops - 1) (drop 1 ops)) ≡ true
others_typed stage after [] op some is typed there = absurd (omega arith)
others_typed stage after (first ∷ rest) op some is typed there =
    ap (λ s. are_typed s (take (length (first ∷ rest) - 1) rest)) (there ∙ ap (stage_after stage) is)
    ∙ ap (are_typed (stage_after stage first)) (take_all (length (first ∷ rest) - 1) rest (omega arith))
    ∙ (typed_parts stage first rest typed).2
