use Rattle.std.proofs.Common.{◌+◌, ◌^◌}
use Rattle.kernel_planes.specs.Block.{Holds, AreBelow, colour_byte, colour_in}
use Rattle.kernel_planes.proofs.palette.read_palette.Given as goal

abbrev pub invariant-loop-v : goal.invariant-loop-v
invariant-loop-v g l = record {
  set : Holds g.W.WholeNumber.number l.values l.v l.n (λ v i. colour_in l.indices l.palette (l.x + i) (colour_byte v));
  small : AreBelow g.W.WholeNumber.number l.values l.v (2 ^ 8);
}
