use Rattle.std.proofs.Common.{◌≡◌, ◌∙◌, false, sym, refl}
use Rattle.pix_meaning.specs.declared.pair.Side.{Side}
use Rattle.op_list.specs.declared.op.Op.TheVariants.{Linear}
use Rattle.pix_meaning.specs.Channels.{channel_levels}
use Rattle.op_build.specs.Recipe.{diagonal, to_codes}
use Rattle.op_build.specs.Recipe.{are_plain}
use Rattle.op_build.proofs.code_values.to_codes.Goals as goal

linear_to : (side : Side) → are_plain (channel_levels side) ≡ false
    → Linear (diagonal (λ c. (channel_levels side c).scale) (λ c. (channel_levels side c).base)) ≡ to_codes side
unfolding to_codes
linear_to side h = rw h refl

pub returns-then-are_plain : goal.returns-then-are_plain
unfolding to_codes
returns-then-are_plain c =
    let plain = sym (c.are_plain.ensures (channel_levels c.args.side.now) c.side_levels-levels.ensures) ∙ c.if-are_plain.true in
    rw (c.side_levels-levels.ensures, plain) refl

pub returns : goal.returns
returns c =
    let plain = sym (c.are_plain.ensures (channel_levels c.args.side.now) c.side_levels-levels.ensures) ∙ c.if-are_plain.false in
    rw (c.diagonal.ensures, c.side_levels-levels.ensures) (linear_to c.args.side.now plain)
