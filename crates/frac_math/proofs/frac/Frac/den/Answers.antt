use Rattle.std.proofs.Common.{pos, rules, sym, ◌∙◌, ap, FitsSigned}
use Rattle.std.specs.Int.{w128}
use Rattle.std.proofs.lemmas.Int.{to_z-of_z}
use Rattle.frac_math.specs.Reduced.{over-denominator}
use Rattle.frac_math.proofs.frac.Frac.den.Goals as goal

pub returns : goal.returns
returns c =
    let f : FitsSigned w128 c.self.inside.den = search rules in
    to_z-of_z w128 _ f ∙ sym (over-denominator _ _ c.self.invariant) ∙ ap (λ x. pos x.denominator) c.self.view_is
