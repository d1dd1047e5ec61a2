use Rattle.std.proofs.Common.{rules, ◌≡◌, true, ◌∙◌, sym}
use Rattle.colour_matrix.specs.contracts.class.RangePartialEq.TheImpl as range_eq
use Rattle.colour_matrix.proofs.SameMatrices.{ranges_decide}
use Rattle.colour_matrix.proofs.same.same_range.Goals as goal

pub returns : goal.returns
returns c =
    let same = ranges_decide c.args.a c.args.b in
    let told : c.eq.result ≡ range_eq.ghosts.eq c.args.a c.args.b = c.eq.ensures in (
      λ t. let is : c.eq.result ≡ true = search rules in same.0 (sym told ∙ is),
      λ e. let is : c.eq.result ≡ true = told ∙ same.1 e in search rules,
    )
