use Rattle.std.proofs.Common.{rules, sym, ◌∙◌, ap, FitsSigned}
use Rattle.std.specs.Int.{w128}
use Rattle.std.proofs.lemmas.Int.{to_z-of_z}
use Rattle.frac_math.specs.Reduced.{over-numerator}
use Rattle.frac_math.proofs.frac.Frac.num.Goals as goal

pub returns : goal.returns
returns c =
    let f : FitsSigned w128 c.self.inside.num = search rules in
    to_z-of_z w128 _ f ∙ sym (over-numerator _ _ c.self.invariant) ∙ ap (λ x. x.numerator) c.self.view_is
