use Rattle.std.proofs.Common.{◌≡◌, ◌∙◌, ap, get_or, arith}
use Rattle.pix_desc.specs.declared.desc.Comp.{Comp}
use Rattle.pix_desc.specs.Shape.{Field, fields, no_field}
use Rattle.pix_desc.proofs.SlotsHeld.{field_at, field_small}
use Rattle.pix_desc.proofs.slots.word_field.Goals as goal

pub returns-clause-width : goal.returns-clause-width
returns-clause-width c =
    field_at (λ (f : Field). f.width) c.field_from.result.width c.args.desc.now c.from.result c.args.p
    (c.from.ensures ∙ ap (λ (d : Comp). d.step) c.component_of.ensures) c.requires.slot
    c.field_from.ensures.width

pub returns-clause-slot : goal.returns-clause-slot
returns-clause-slot c =
    field_at (λ (f : Field). f.slot) c.field_from.result.slot c.args.desc.now c.from.result c.args.p
    (c.from.ensures ∙ ap (λ (d : Comp). d.step) c.component_of.ensures) c.requires.slot
    c.field_from.ensures.slot

pub returns-clause-small : goal.returns-clause-small
returns-clause-small c =
    let desc = c.args.desc.now in
    let is : c.field_from.result.width ≡ (get_or (fields desc) c.args.p no_field).width =
    field_at (λ (f : Field). f.width) c.field_from.result.width desc c.from.result c.args.p
    (c.from.ensures ∙ ap (λ (d : Comp). d.step) c.component_of.ensures) c.requires.slot
    c.field_from.ensures.width in
    omega (arith, is, field_small desc c.requires.valid c.requires.word c.args.p)
