use Rattle.std.proofs.Common.{◌-◌, ◌∙◌, ap, arith}
use Rattle.pix_desc.specs.Shape.{Field}
use Rattle.pix_desc.proofs.FieldSteps.{field_after}
use Rattle.pix_desc.proofs.word_fields.+field_from.Goals as goal

pub returns-else-i-eq0-clause-width : goal.returns-else-i-eq0-clause-width
returns-else-i-eq0-clause-width t c = λ most within.
    field_after (λ (f : Field). f.width) c.field_from.result.width c.args.desc.now c.args.top c.saturating_sub.result c.args.i
    (c.args.i - 1) most
    (omega (arith, c.if-top-eq0.false)) (omega arith)
    (c.saturating_sub.ensures ∙ ap (λ w. c.args.top - w) c.field_below-field.ensures.width) within c.field_from.ensures.width

pub returns-else-i-eq0-clause-slot : goal.returns-else-i-eq0-clause-slot
returns-else-i-eq0-clause-slot t c = λ most within.
    field_after (λ (f : Field). f.slot) c.field_from.result.slot c.args.desc.now c.args.top c.saturating_sub.result c.args.i
    (c.args.i - 1) most
    (omega (arith, c.if-top-eq0.false)) (omega arith)
    (c.saturating_sub.ensures ∙ ap (λ w. c.args.top - w) c.field_below-field.ensures.width) within c.field_from.ensures.slot
