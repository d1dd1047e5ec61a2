-- What tests over a descriptor's components say of each of them.
use Rattle.std.proofs.Common.{◌≡◌, ℕ, zero, suc, ◌+◌, ◌<◌, ◌≤◌, Bool, true, false, nat_eq, List, [], ◌∷◌, length, get_or, take, length-take}
use Rattle.std.proofs.Common.{get_or-take, map, refl, sym, ◌∙◌, ap, arith}
use Rattle.std.specs.List.{range_with_len, list_any, list_all}
use Rattle.std.proofs.lemmas.Bool.{both_ways, false_from_ne_true, true_from_ne_false, or_parts, cond-true, cond_both, eq-eqb}
use Rattle.std.proofs.lemmas.Bool.Decides.{nat_tests}
use Rattle.std.proofs.lemmas.List.FromFn.{length-map-range_with_len, get_or-map-range_with_len, length-range_with_len}
use Rattle.std.proofs.lemmas.List.FromFn.{get_or-range_with_len, fill_by_all}
use Rattle.std.proofs.lemmas.List.Folds.{Any-from_list_any, list_any_at, list_all_at}
use Rattle.pix_desc.specs.declared.desc.Comp.{Comp}
use Rattle.pix_desc.specs.declared.desc.Desc.{Desc}
use Rattle.pix_desc.specs.Component.{components, component_of, no_component}
use Rattle.pix_desc.specs.Frame.{step_in}
use Rattle.pix_desc.specs.Layouts.{some_component, some_two, some_pair, differ_in_step}

-- a test that no element passes fails at each index, and one that all pass passes
pub list_any-false : {X : Type 0} (p : X → Bool) (xs : List X) (j : ℕ) (d : X) → list_any p xs ≡ false → j < length xs
    → p (get_or xs j d) ≡ false
list_any-false p xs j d none within =
    false_from_ne_true (p (get_or xs j d)) (λ e. both_ways (list_any p xs) none (list_any_at p xs j d within e))

pub list_all-true : {X : Type 0} (p : X → Bool) (xs : List X) (j : ℕ) (d : X) → list_all p xs ≡ true → j < length xs
    → p (get_or xs j d) ≡ true
list_all-true p xs j d all within =
    true_from_ne_false (p (get_or xs j d)) (λ e. both_ways (list_all p xs) (list_all_at p xs j d within e) all)

-- a test over a list that is made from a function of the index fails at each index, or passes at one
pub list_any-map_false : {X : Type 0} (f : ℕ → X) (p : X → Bool) (n j : ℕ) → list_any p (map f (range_with_len 0 n)) ≡ false → j < n
    → p (f j) ≡ false
list_any-map_false f p n j none within =
    let at = get_or-map-range_with_len f 0 n j j (f j) within (omega arith) in
    let long : j < length (map f (range_with_len 0 n)) = omega (arith, length-map-range_with_len f 0 n) in
    ap p (sym at) ∙ list_any-false p (map f (range_with_len 0 n)) j (f j) none long

pub list_all-map_true : {X : Type 0} (f : ℕ → X) (p : X → Bool) (n j : ℕ) → list_all p (map f (range_with_len 0 n)) ≡ true → j < n
    → p (f j) ≡ true
list_all-map_true f p n j all within =
    let at = get_or-map-range_with_len f 0 n j j (f j) within (omega arith) in
    let long : j < length (map f (range_with_len 0 n)) = omega (arith, length-map-range_with_len f 0 n) in
    ap p (sym at) ∙ list_all-true p (map f (range_with_len 0 n)) j (f j) all long

-- a test over the numbers below n
pub list_any-below_false : (p : ℕ → Bool) (n k : ℕ) → list_any p (range_with_len 0 n) ≡ false → k < n → p k ≡ false
list_any-below_false p n k none within =
    let at : get_or (range_with_len 0 n) k 0 ≡ k = omega (arith, get_or-range_with_len 0 n k 0 within) in
    let long : k < length (range_with_len 0 n) = omega (arith, length-range_with_len 0 n) in
    ap p (sym at) ∙ list_any-false p (range_with_len 0 n) k 0 none long

pub list_all-below_true : (p : ℕ → Bool) (n k : ℕ) → list_all p (range_with_len 0 n) ≡ true → k < n → p k ≡ true
list_all-below_true p n k all within =
    let at : get_or (range_with_len 0 n) k 0 ≡ k = omega (arith, get_or-range_with_len 0 n k 0 within) in
    let long : k < length (range_with_len 0 n) = omega (arith, length-range_with_len 0 n) in
    ap p (sym at) ∙ list_all-true p (range_with_len 0 n) k 0 all long

-- no two elements are so that have holds of them, the earlier first
pub some_two-false : (have : Comp → Comp → Bool) (cs : List Comp) (i j : ℕ) (d : Comp) → some_two have cs ≡ false → i < j → j < length cs
    → have (get_or cs i d) (get_or cs j d) ≡ false
some_two-false have [] i j d none before within = absurd (omega arith)
some_two-false have (c ∷ cs) zero zero d none before within = absurd (omega arith)
some_two-false have (c ∷ cs) zero (suc j) d none before within = list_any-false (have c) cs j d (or_parts _ _ none).0 (omega arith)
some_two-false have (c ∷ cs) (suc i) zero d none before within = absurd (omega arith)
some_two-false have (c ∷ cs) (suc i) (suc j) d none before within =
    some_two-false have cs i j d (or_parts (list_any (have c) cs) (some_two have cs) none).1 (omega arith) (omega arith)

-- component j stands at j
pub get_or-components : (desc : Desc) (j : ℕ) (d : Comp) → j < desc.count → get_or (components desc) j d ≡ component_of desc j
get_or-components desc j d listed = get_or-map-range_with_len (component_of desc) 0 desc.count j j d listed (omega arith)

pub length-components : (desc : Desc) → length (components desc) ≡ desc.count
length-components desc = length-map-range_with_len (component_of desc) 0 desc.count

-- what no component is, component j is not
pub some_component-false : (desc : Desc) (has : Comp → Bool) (j : ℕ) → some_component desc has ≡ false → j < desc.count
    → has (component_of desc j) ≡ false
some_component-false desc has j none listed = list_any-map_false (component_of desc) has desc.count j none listed

-- what some number below n is, one of them is
pub list_any-below_at : (p : ℕ → Bool) (n : ℕ) → list_any p (range_with_len 0 n) ≡ true → (k : ℕ) × (k < n) × (p k ≡ true)
list_any-below_at p n some =
    let any = Any-from_list_any p (range_with_len 0 n) some in
    let within : any.0 < n = omega (arith, any.2, length-range_with_len 0 n) in
    let at : any.1 ≡ 0 + any.0 = sym any.3 ∙ get_or-range_with_len 0 n any.0 any.1 within in
    (any.1, omega (arith, at, within), any.4)

-- where some component passes a test, component j of some j does
pub some_component-at : (desc : Desc) (has : Comp → Bool) → some_component desc has ≡ true
    → (i : ℕ) × (i < desc.count) × (has (component_of desc i) ≡ true)
some_component-at desc has some =
    let any = Any-from_list_any has (components desc) some in
    let listed : any.0 < desc.count = omega (arith, any.2, length-components desc) in
    (any.0, listed, ap has (sym (get_or-components desc any.0 any.1 listed) ∙ any.3) ∙ any.4)

-- two components are not as no pair is
pub some_pair-false : (desc : Desc) (have : Comp → Comp → Bool) (i j : ℕ) → some_pair desc have ≡ false → i < j → j < desc.count
    → have (component_of desc i) (component_of desc j) ≡ false
some_pair-false desc have i j none before listed =
    let first = get_or-components desc i no_component (omega arith) in
    let second = get_or-components desc j no_component listed in
    let none_of = some_two-false have (components desc) i j no_component none before (omega (arith, length-components desc)) in
    rw (first, second) at none_of

-- the bytes of a pixel in component j's plane, where the components of a plane agree, are those that it says
pub step_in-plane : (cs : List Comp) (j : ℕ) (d : Comp) → some_two differ_in_step cs ≡ false → j < length cs
    → step_in (get_or cs j d).plane cs ≡ (get_or cs j d).step
step_in-plane [] j d none within = absurd (omega arith)
step_in-plane (c ∷ cs) zero d none within = cond-true (nat_eq c.plane c.plane) c.step (step_in c.plane cs) (eq-eqb c.plane c.plane refl)
step_in-plane (c ∷ cs) (suc j) d none within =
    let other = get_or cs j d in
    let apart = or_parts (list_any (differ_in_step c) cs) (some_two differ_in_step cs) none in
    let agree : differ_in_step c other ≡ false = list_any-false (differ_in_step c) cs j d apart.0 (omega arith) in
    cond_both (nat_eq c.plane other.plane) c.step (step_in other.plane cs) (λ s. s ≡ other.step)
    (λ same. grind (arith, nat_tests))
    (λ _. step_in-plane cs j d apart.1 (omega arith))

-- the components are the first entries of comps, where it has four
pub take-comps : (desc : Desc) → length desc.comps ≡ 4 → desc.count ≤ 4 → take desc.count desc.comps ≡ components desc
take-comps desc four most =
    let long : length (take desc.count desc.comps) ≡ desc.count = omega (arith, length-take desc.count desc.comps) in
    fill_by_all (component_of desc) (take desc.count desc.comps) desc.count no_component long
    (λ k below. get_or-take desc.count desc.comps k no_component below)
