use Rattle.std.proofs.Common.{[], ◌∷◌, Some, refl}
use Rattle.op_list.specs.declared.op.Op.TheVariants.{SwapBytes, Write}
use Rattle.op_build.specs.Recipe.{encode}
use Rattle.pix_desc.specs.Shape.{element_counts}
use Rattle.op_build.specs.ElementType.{is_swapped, element_type}
use Rattle.op_build.proofs.recipe.StepLists.{operations-if}
use Rattle.op_build.proofs.steps.encode.Goals as goal

pub returns : goal.returns
unfolding encode
returns c =
    let desc = c.args.desc.now in
    let last = operations-if (is_swapped desc) SwapBytes (Some (Write (element_type desc) (element_counts desc)) ∷ []) in
    rw (
      c.element_type.ensures,
      c.slot_channels.ensures,
      c.spare_zeros.ensures,
      c.join.ensures,
      c.step_if.ensures,
      c.is_swapped.ensures,
      c.element_type-2.ensures,
      c.element_counts.ensures,
    ) (rw last refl)
