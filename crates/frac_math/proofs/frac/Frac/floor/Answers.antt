use Rattle.std.proofs.Common.{pos, subst, rules}
use Rattle.std.specs.Int.{w128}
use Rattle.std.specs.Int.RustNames.{FitsSigned}
use Rattle.std.proofs.lemmas.Int.{to_z-of_z}
use Rattle.frac_math.specs.Fraction.{floor}
use Rattle.frac_math.proofs.FractionRing.{denominator_positive}
use Rattle.frac_math.proofs.Casts.{divisor_fits}
use Rattle.frac_math.proofs.frac.Frac.floor.Goals as goal

pub div_euclid-requires : goal.div_euclid-requires
div_euclid-requires c =
    let f : FitsSigned w128 c.den.result = search rules in
    let d : FitsSigned w128 (pos c.args.self.now.denominator) = subst (λ z. FitsSigned w128 z) c.den.ensures f in
    let t = divisor_fits c.num.result c.args.self.now.denominator (denominator_positive c.args.self.now) d in
    rw (to_z-of_z w128 c.den.result f, to_z-of_z w128 c.num.result (search rules), c.den.ensures)
    (record { nonzero = t.0; no_overflow = t.1 })

pub returns : goal.returns
unfolding floor
returns c =
    rw (
      to_z-of_z w128 c.div_euclid.result (search rules),
      c.div_euclid.ensures,
      to_z-of_z w128 c.num.result (search rules),
      to_z-of_z w128 c.den.result (search rules),
      c.num.ensures,
      c.den.ensures,
    )
