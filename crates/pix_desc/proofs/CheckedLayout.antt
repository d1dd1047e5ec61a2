-- The layout that the check answers.
use Rattle.std.proofs.Common.{◌≡◌, Bool, true, false, not, if◌then◌else◌, Result, Ok, Err, refl, ap, ◌∙◌}
use Rattle.std.proofs.lemmas.Bool.{cond-false}
use Rattle.pix_desc.specs.declared.desc.Desc.{Desc}
use Rattle.pix_desc.specs.declared.desc.Layout.{Layout}
use Rattle.pix_desc.specs.declared.desc.Layout.TheVariants.{Elements, Word}
use Rattle.pix_desc.specs.declared.desc.DescFault.{DescFault}
use Rattle.pix_desc.specs.declared.desc.DescFault.TheVariants.{ComponentCount, DepthRange, Overlap, OutsideStep, MixedLayout, PlaneCount}
use Rattle.pix_desc.specs.Layouts.{IsValid, checked, is_count, some_component, some_pair, is_depth, overlap, is_inside, is_mixed}
use Rattle.pix_desc.specs.Layouts.{has_all_planes, is_elements}
use Rattle.pix_desc.proofs.Valid.{has_no_fault}

abbrev layout_for : Bool → Result Layout DescFault
layout_for elements = if elements then Ok Elements else Ok Word

checked_is : (desc : Desc) → IsValid desc → checked desc ≡ layout_for (is_elements desc)
unfolding checked
checked_is desc valid =
    let passed = has_no_fault desc valid in
    cond-false (not (is_count desc.palette desc.rgb desc.alpha desc.count)) (Err ComponentCount) _ (ap not passed.counted)
    ∙ cond-false (some_component desc (λ c. not (is_depth c))) (Err DepthRange) _ passed.deep
    ∙ cond-false (some_pair desc (overlap desc)) (Err Overlap) _ passed.apart
    ∙ cond-false (some_component desc (λ c. not (is_inside desc c))) (Err OutsideStep) _ passed.inside
    ∙ cond-false (is_mixed desc) (Err MixedLayout) _ passed.unmixed
    ∙ cond-false (not (has_all_planes desc)) (Err PlaneCount) (layout_for (is_elements desc)) (ap not passed.planes)

told_elements : (elements : Bool) → Ok Elements ≡ layout_for elements → true ≡ elements
told_elements true h = refl
told_elements false h = absurd cc

told_word : (elements : Bool) → Ok Word ≡ layout_for elements → false ≡ elements
told_word true h = absurd cc
told_word false h = refl

told_fault : (elements : Bool) (fault : DescFault) → Err fault ≡ layout_for elements → false ≡ elements
told_fault true fault h = absurd cc
told_fault false fault h = absurd cc

pub layout_elements : (desc : Desc) → IsValid desc → Ok Elements ≡ checked desc → true ≡ is_elements desc
layout_elements desc valid told = told_elements (is_elements desc) (told ∙ checked_is desc valid)

pub layout_word : (desc : Desc) → IsValid desc → Ok Word ≡ checked desc → false ≡ is_elements desc
layout_word desc valid told = told_word (is_elements desc) (told ∙ checked_is desc valid)

pub layout_fault : (desc : Desc) (fault : DescFault) → IsValid desc → Err fault ≡ checked desc → false ≡ is_elements desc
layout_fault desc fault valid told = told_fault (is_elements desc) fault (told ∙ checked_is desc valid)
