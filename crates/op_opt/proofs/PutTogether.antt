-- A list that is put together from the operations before a change, the one that it gives, and those behind it.
use Rattle.std.proofs.Common.{◌≡◌, ◌≤◌, List, [], ◌∷◌, ◌++◌, length, get_or, append_assoc, subst, sym, arith}
use Rattle.std.specs.Prelude.{Option, Some}
use Rattle.op_list.specs.declared.op.Op.{Op}
use Rattle.op_list.specs.Typing.{IsOpList}
use Rattle.op_list.proofs.Typed.{front_is_list}
use Rattle.op_opt.specs.Changes.{with_given}

-- with the first of what follows
with_first : (front : List Op) (op : Op) (rest : List Op) → IsOpList (front ++ op ∷ rest) → IsOpList (front ++ op ∷ [])
with_first front op rest is = front_is_list (front ++ op ∷ []) rest (subst IsOpList (sym (append_assoc front (op ∷ []) rest)) is)

pub first_fits : (front ops : List Op) (op : Op) → 1 ≤ length ops → op ≡ get_or ops 0 op → IsOpList (front ++ ops)
    → IsOpList (front ++ op ∷ [])
first_fits front [] op some first is = absurd (omega (arith, some))
first_fits front (o ∷ ops) op some first is = subst (λ (p : Op). IsOpList (front ++ p ∷ [])) (sym first) (with_first front o ops is)

pub given_fits : (list front : List Op) (given : Option Op) (rest : List Op) (op : Op) → list ≡ front → given ≡ Some op
    → IsOpList (front ++ with_given given rest)
    → IsOpList (list ++ op ∷ [])
given_fits list front given rest op made told is =
    subst (λ (l : List Op). IsOpList (l ++ op ∷ [])) (sym made)
    (with_first front op rest (subst (λ (g : Option Op). IsOpList (front ++ with_given g rest)) told is))
