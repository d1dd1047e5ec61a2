use Rattle.std.proofs.Common.{◌∙◌, sym, ap, take, arith}
use Rattle.std.specs.Prelude.{sum}
use Rattle.pix_desc.proofs.SlotsHeld.{element_held, none_held, field_held}
use Rattle.pix_desc.proofs.slots.slot_at.Goals as goal

pub returns-then-not-is_elements : goal.returns-then-not-is_elements
returns-then-not-is_elements c =
    c.word_field.ensures.slot ∙ field_held c.args.desc.now c.requires.valid (sym c.is_elements.ensures ∙ c.if-not-is_elements.true) c.args.p

pub returns-then-from-count : goal.returns-then-from-count
returns-then-from-count c =
    c.element_slot.ensures
    ∙ element_held c.args.desc.now c.requires.valid
    (sym c.is_elements.ensures ∙ c.if-not-is_elements.false) c.total_before-count.result c.args.p
    (c.total_before-count.ensures ∙ ap (λ counts. sum (take 4 counts)) c.element_counts.ensures)
    (omega (arith, c.from.ensures, c.if-from-count.true))

pub returns-else-from-count : goal.returns-else-from-count
returns-else-from-count c =
    none_held c.args.desc.now c.requires.valid (sym c.is_elements.ensures ∙ c.if-not-is_elements.false) c.total_before-count.result c.args.p
    (c.total_before-count.ensures ∙ ap (λ counts. sum (take 4 counts)) c.element_counts.ensures)
    (omega (arith, c.from.ensures, c.if-from-count.false))
