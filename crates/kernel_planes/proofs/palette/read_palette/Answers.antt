use Rattle.std.proofs.Common.{◌+◌, ◌^◌, ap, ◌∙◌, arith}
use Rattle.kernel_planes.specs.Block.{colour_byte, colour_in}
use Rattle.kernel_planes.proofs.Palettes.{below_next, hold_next}
use Rattle.kernel_planes.proofs.palette.read_palette.Goals as goal

pub loop-v-preserved : goal.loop-v-preserved
loop-v-preserved g c =
    let number = g.W.WholeNumber.number in
    record {
      set = hold_next number c.loop-v.values c.read_colour.new.values
          (λ v i. colour_in c.args.indices.now c.args.palette.now (c.args.x + i) (colour_byte v)) c.loop-v.v c.args.n
          (λ i d within. c.read_colour.ensures.set i d within
          ∙ ap (λ b. colour_in c.args.indices.now c.args.palette.now (c.args.x + i) b) c.colour_byte.ensures.value)
          c.read_colour.ensures.kept c.loop-v.invariant.set (omega arith);
      small = below_next number c.loop-v.values c.read_colour.new.values c.loop-v.v
          (2 ^ 8) c.read_colour.ensures.small c.read_colour.ensures.kept c.loop-v.invariant.small;
    }
