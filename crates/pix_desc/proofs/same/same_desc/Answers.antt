use Rattle.std.proofs.Common.{rules, ◌≡◌, true, ◌∙◌, sym}
use Rattle.pix_desc.specs.contracts.desc.DescPartialEq.TheImpl as desc_eq
use Rattle.pix_desc.proofs.SameDescriptors.{descriptors_decide}
use Rattle.pix_desc.proofs.same.same_desc.Goals as goal

pub returns : goal.returns
returns c =
    let same = descriptors_decide c.args.a.now c.args.b.now in
    let told : c.eq.result ≡ desc_eq.ghosts.eq c.args.a.now c.args.b.now = c.eq.ensures in (
      λ t. let is : c.eq.result ≡ true = search rules in same.0 (sym told ∙ is),
      λ e. let is : c.eq.result ≡ true = told ∙ same.1 e in search rules,
    )
