use Rattle.std.proofs.Common.{rules, ◌≡◌, true, ◌∙◌, sym}
use Rattle.colour_matrix.specs.contracts.matrix.MatrixPartialEq.TheImpl as matrix_eq
use Rattle.colour_matrix.proofs.SameMatrices.{matrices_decide}
use Rattle.colour_matrix.proofs.same.same_matrix.Goals as goal

pub returns : goal.returns
returns c =
    let same = matrices_decide c.args.a.now c.args.b.now in
    let told : c.eq.result ≡ matrix_eq.ghosts.eq c.args.a.now c.args.b.now = c.eq.ensures in (
      λ t. let is : c.eq.result ≡ true = search rules in same.0 (sym told ∙ is),
      λ e. let is : c.eq.result ≡ true = told ∙ same.1 e in search rules,
    )
