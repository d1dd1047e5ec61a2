-- The places behind each operation of a list, as code takes slices apart.
use Rattle.std.proofs.Common.{◌≡◌, ◌-◌, ◌≤◌, List, [], ◌∷◌, length, get_or, take, drop, sym, ◌∙◌, ap, arith}
use Rattle.std.proofs.lemmas.List.{take_all}
use Rattle.op_list.specs.declared.types.Stage.{Stage}
use Rattle.op_list.specs.declared.op.Op.{Op}
use Rattle.op_list.specs.Typing.{stage_after}
use Rattle.op_range.specs.declared.range.ValueRange.{ValueRange}
use Rattle.op_range.specs.Ranges.{ranges_after}
use Rattle.op_opt.specs.declared.place.Place.{Place}
use Rattle.op_opt.specs.Changes.{places_after}

others_of : (op : Op) (ops : List Op) → take (length (op ∷ ops) - 1) ops ≡ ops
others_of op ops = take_all (length (op ∷ ops) - 1) ops (omega arith)

pub first_and_others : (stage : Stage) (here : List ValueRange) (ops : List Op) (op : Op) (after : List Place) → 1 ≤ length ops
    → op ≡ get_or ops 0 op
    → after ≡ places_after stage ops here → after ≡ places_after stage (op ∷ take (length ops - 1) (drop 1 ops)) here
first_and_others stage here [] op after some is along = absurd (omega (arith, some))
first_and_others stage here (first ∷ rest) op after some is along =
    along ∙ sym (ap (λ o. places_after stage (o ∷ take (length (first ∷ rest) - 1) rest) here) is
    ∙ ap (λ r. places_after stage (first ∷ r) here) (others_of first rest))

pub others_along : (stage there : Stage) (here next : List ValueRange) (ops : List Op) (op : Op) (after others : List Place)
    → 1 ≤ length ops → op ≡ get_or ops 0 op
    → after ≡ places_after stage ops here → others ≡ drop 1 after → there ≡ stage_after stage op → next ≡ ranges_after stage op here
    → others ≡ places_after there (take (length ops - 1) (drop 1 ops)) next
unfolding places_after
others_along stage there here next [] op after others some is along behind left made = absurd (omega (arith, some))
others_along stage there here next (first ∷ rest) op after others some is along behind left made =
    behind ∙ ap (drop 1) along
    ∙ sym (ap (λ r. places_after there r next) (others_of first rest)
    ∙ ap (λ s. places_after s rest next) (left ∙ ap (stage_after stage) is)
    ∙ ap (places_after (stage_after stage first) rest) (made ∙ ap (λ o. ranges_after stage o here) is))
