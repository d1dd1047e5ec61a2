use Rattle.std.proofs.Common.{◌≡◌, ◌∙◌, to_z, of_z, FitsSigned, ◌*ℤ◌, rules}
use Rattle.std.specs.Int.{w64}
use Rattle.std.proofs.lemmas.Int.{to_z-of_z}
use Rattle.kernel_step.proofs.ShortFactors.{signed_is}
use Rattle.kernel_step.proofs.numerator.signed_product.Goals as goal

pub returns : goal.returns
returns c =
    let k_is : to_z w64 (of_z w64 c.args.k) ≡ c.args.k = to_z-of_z w64 c.args.k c.ranges.k in
    let m_is = rw k_is at c.lifted.ensures in
    let from_is : to_z w64 (of_z w64 c.args.from) ≡ c.args.from = to_z-of_z w64 c.args.from c.ranges.from in
    let made = rw from_is at c.product_below.ensures in
    let is : c.product_below.result ≡ c.args.k *ℤ c.args.from =
    made ∙ signed_is c.args.k c.args.from c.lifted.result m_is c.requires.from.0 in
    let fits : FitsSigned w64 c.product_below.result = search rules in
    to_z-of_z w64 c.product_below.result fits ∙ is
