use Rattle.std.proofs.Common.{[], ◌∷◌, ◌-◌, ◌^◌, not, Some, refl}
use Rattle.frac_math.specs.Fraction.{nat}
use Rattle.colour_matrix.specs.Colour.{to_rgb_rows, from_rgb_rows}
use Rattle.pix_meaning.specs.Pairs.{is_rgb}
use Rattle.op_list.specs.declared.op.Op.TheVariants.{Dither, Linear, Min, Max}
use Rattle.pix_meaning.specs.Channels.{channel_depth}
use Rattle.op_build.specs.Recipe.{convert, to_codes, over_three, limits}
use Rattle.op_build.proofs.recipe.StepLists.{operations-if-if}
use Rattle.op_build.proofs.steps.convert.Goals as goal

pub returns : goal.returns
unfolding convert
returns c =
    let from = c.args.pair.now.from in
    let to = c.args.pair.now.to in
    let low = Max (limits to.desc (λ k. nat 0)) in
    let high = Min (limits to.desc (λ k. nat (2 ^ channel_depth to.desc k - 1))) in
    let rest = Some (to_codes to) ∷ Some (Dither c.args.pair.now.dither) ∷ Some low ∷ Some high ∷ [] in
    let both = operations-if-if (not (is_rgb from.desc)) (not (is_rgb to.desc)) (Linear (over_three (to_rgb_rows from.matrix)))
    (Linear (over_three (from_rgb_rows to.matrix))) rest in
    rw (
      c.from_codes.ensures,
      c.step_if.ensures,
      c.is_rgb.ensures,
      c.over_three.ensures,
      c.to_rgb.ensures.coefficients,
      c.step_if-2.ensures,
      c.is_rgb-2.ensures,
      c.over_three-2.ensures,
      c.from_rgb.ensures.coefficients,
      c.to_codes.ensures,
      c.least_codes.ensures,
      c.greatest_codes.ensures,
      both,
    ) refl
