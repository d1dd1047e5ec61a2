use Rattle.std.proofs.Common.{◌∙◌, sym, ap, take}
use Rattle.std.specs.Prelude.{nat_lt, sum}
use Rattle.pix_desc.proofs.SlotsHeld.{element_there, field_there}
use Rattle.pix_desc.proofs.slots.has_slot.Goals as goal

pub returns-then-is_elements : goal.returns-then-is_elements
returns-then-is_elements c =
    ap (λ p. nat_lt p c.total_before.result) c.from.ensures
    ∙ element_there c.args.desc.now c.requires.valid (sym c.is_elements.ensures ∙ c.if-is_elements.true) c.total_before.result c.args.p
    (c.total_before.ensures ∙ ap (λ counts. sum (take 4 counts)) c.element_counts.ensures)

pub returns-else-is_elements : goal.returns-else-is_elements
returns-else-is_elements c =
    ap (nat_lt 0) c.word_field.ensures.width
    ∙ field_there c.args.desc.now c.requires.valid (sym c.is_elements.ensures ∙ c.if-is_elements.false) c.args.p
