use Rattle.std.proofs.Common.{◌≡◌, ◌∙◌, ap, take, length, rules}
use Rattle.pix_desc.proofs.ComponentLists.{take-comps}
use Rattle.pix_desc.proofs.positions.components.Goals as goal

pub returns : goal.returns
returns c =
    let desc = c.args.desc.now in
    let four : length desc.comps ≡ 4 = search rules in
    ap (λ n. take n desc.comps) c.from.ensures ∙ take-comps desc four c.requires
