use Rattle.std.proofs.Common.{[], ◌∷◌, false, Some, ◌∙◌, sym, refl, ap}
use Rattle.op_list.specs.declared.op.Op.TheVariants.{Read, SwapBytes, Clear, Swizzle}
use Rattle.op_build.specs.Recipe.{split, channel_slots, missing_codes}
use Rattle.pix_desc.specs.Shape.{element_counts}
use Rattle.op_build.specs.ElementType.{element_type, is_swapped}
use Rattle.op_build.proofs.decode.Plain.{decode_is}
use Rattle.op_build.proofs.recipe.StepLists.{operations-between}
use Rattle.op_build.proofs.steps.decode_plain.Goals as goal

pub returns : goal.returns
returns c =
    let desc = c.args.desc.now in
    let parts = c.split-first.result in
    let rest = Some (Swizzle (channel_slots desc)) ∷ Some (Clear (missing_codes desc)) ∷ [] in
    rw (
      c.element_type.ensures,
      c.element_counts.ensures,
      c.step_if.ensures,
      c.is_swapped.ensures,
      c.channel_slots.ensures,
      c.missing_codes.ensures,
    )
    (ap (λ ops. Read (element_type desc) (element_counts desc) false ∷ ops)
    (operations-between (is_swapped desc) SwapBytes parts.0 parts.1 (split desc) rest c.split-first.ensures)
    ∙ sym (decode_is desc (split desc) c.requires.plain refl))
