use Rattle.std.proofs.Common.{rules}
use Rattle.std.specs.Int.{w128}
use Rattle.std.specs.Int.RustNames.{FitsSigned}
use Rattle.std.proofs.lemmas.Int.{to_z-of_z}
use Rattle.colour_matrix.proofs.ratio.whole.Goals as goal

pub returns : goal.returns
returns c =
    let f : FitsSigned w128 c.from.result = search rules in
    rw (to_z-of_z w128 c.from.result f, c.from.ensures) at c.whole.ensures
