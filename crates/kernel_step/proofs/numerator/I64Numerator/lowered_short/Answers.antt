use Rattle.std.proofs.Common.{◌≡◌, ◌∙◌, sym, subst, to_z, of_z, FitsSigned}
use Rattle.std.specs.Int.{w64}
use Rattle.std.proofs.lemmas.Int.{to_z-of_z}
use Rattle.kernel_step.specs.Rules.{with_product}
use Rattle.kernel_step.proofs.ShortFactors.{lowered_is}
use Rattle.kernel_step.proofs.numerator.I64Numerator.lowered_short.Goals as goal

pub lowered-requires-clause-fits : goal.lowered-requires-clause-fits
lowered-requires-clause-fits c =
    let k_is : to_z w64 (of_z w64 c.args.k) ≡ c.args.k = to_z-of_z w64 c.args.k c.ranges.k in
    let m_is = rw k_is at c.magnitude.ensures in
    let sum = lowered_is c.args.self c.args.from c.args.k c.magnitude.result m_is c.requires.from.0 in
    rw (to_z-of_z w64 c.args.self c.ranges.self, to_z-of_z w64 c.args.from c.ranges.from)
    (subst (FitsSigned w64) (sym sum) c.requires.fits)

pub returns : goal.returns
returns c =
    let k_is : to_z w64 (of_z w64 c.args.k) ≡ c.args.k = to_z-of_z w64 c.args.k c.ranges.k in
    let m_is = rw k_is at c.magnitude.ensures in
    let sum = lowered_is c.args.self c.args.from c.args.k c.magnitude.result m_is c.requires.from.0 in
    let made = rw (to_z-of_z w64 c.args.self c.ranges.self, to_z-of_z w64 c.args.from c.ranges.from) at c.lowered.ensures in
    let is : c.lowered.result ≡ with_product c.args.self c.args.from c.args.k = made ∙ sum in
    let fits : FitsSigned w64 c.lowered.result = subst (FitsSigned w64) (sym is) c.requires.fits in
    to_z-of_z w64 c.lowered.result fits ∙ is
