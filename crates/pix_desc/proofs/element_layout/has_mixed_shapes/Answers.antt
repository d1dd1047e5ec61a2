use Rattle.std.proofs.Common.{◌∙◌, rules, tests}
use Rattle.std.specs.List.{list_any}
use Rattle.std.proofs.lemmas.Iterator.{YieldsList-from_slice}
use Rattle.std.proofs.lemmas.Iterator.Search.{any_from_yields_List}
use Rattle.pix_desc.specs.Layouts.{differ_in_shape}
use Rattle.pix_desc.proofs.Pairs.{some_two-differ_in_shape}
use Rattle.pix_desc.proofs.element_layout.has_mixed_shapes.Goals as goal

pub returns : goal.returns
returns c =
    let comps = c.args.comps.now in
    any_from_yields_List (λ a. list_any (differ_in_shape a) comps) _ _ _ c.any.ensures.ran (YieldsList-from_slice comps cc)
    (λ x b q k. search (rules, tests))
    ∙ some_two-differ_in_shape comps
