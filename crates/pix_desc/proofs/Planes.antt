-- The planes that components lie in.
use Rattle.std.proofs.Common.{◌≡◌, ℕ, suc, ◌+◌, ◌/◌, ◌<◌, Bool, true, false, not, ◌||◌, ◌&&◌, nat_eq, cond, List, [], ◌∷◌, length, get_or}
use Rattle.std.proofs.Common.{take, drop, refl, sym, ◌∙◌, ap, add-one, arith}
use Rattle.std.specs.Prelude.{filter, sum_by}
use Rattle.std.specs.List.{list_any, list_all}
use Rattle.std.proofs.Math.Seq.{drop-cons}
use Rattle.std.proofs.lemmas.Bool.{eq-eqb}
use Rattle.std.proofs.lemmas.Bool.Decides.{nat_tests}
use Rattle.std.proofs.lemmas.List.Folds.{list_any_more}
use Rattle.std.proofs.lemmas.List.Sums.{sum_by-cons}
use Rattle.pix_desc.specs.declared.desc.Comp.{Comp}
use Rattle.pix_desc.specs.Component.{bytes_read}
use Rattle.pix_desc.specs.Layouts.{one_a_plane, element_count}

-- no component that came before lies in the plane of this one
abbrev pub is_new : List Comp → Comp → Bool
is_new seen c = not (list_any (λ d. nat_eq d.plane c.plane) seen)

-- what passes both of two tests
choose : (p q r : Bool) (c : Comp) (ds es : List Comp) → r ≡ (q && p) → ds ≡ es → cond q (cond p (c ∷ ds) ds) ds ≡ cond r (c ∷ es) es
choose true true r c ds es both same = cc
choose false true r c ds es both same = cc
choose true false r c ds es both same = cc
choose false false r c ds es both same = cc

filter-cond : (p : Comp → Bool) (b : Bool) (c : Comp) (cs : List Comp)
    → filter p (cond b (c ∷ cs) cs) ≡ cond b (cond (p c) (c ∷ filter p cs) (filter p cs)) (filter p cs)
filter-cond p true c cs = refl
filter-cond p false c cs = refl

filter-both : (p q r : Comp → Bool) (cs : List Comp) → ((c : Comp) → r c ≡ (q c && p c)) → filter p (filter q cs) ≡ filter r cs
filter-both p q r [] same = refl
filter-both p q r (c ∷ cs) same =
    filter-cond p (q c) c (filter q cs)
    ∙ choose (p c) (q c) (r c) c (filter p (filter q cs)) (filter r cs) (same c) (filter-both p q r cs same)

-- what is left of a sum over one component a plane, behind the first i of all
abbrev pub elements_of : Comp → ℕ
elements_of c = c.step / bytes_read c

abbrev pub elements_left : List Comp → ℕ → ℕ
elements_left cs i = sum_by elements_of (filter (is_new (take i cs)) (one_a_plane (drop i cs)))

filter-all : (cs : List Comp) → filter (is_new []) cs ≡ cs
filter-all [] = refl
filter-all (c ∷ cs) = ap (λ ds. c ∷ ds) (filter-all cs)

pub elements_left-none : (cs : List Comp) → elements_left cs 0 ≡ element_count cs
elements_left-none cs = ap (sum_by elements_of) (filter-all (one_a_plane cs))

-- the first of a list counts where it passes the test
sum_by-filter_cons : (p : Comp → Bool) (c : Comp) (cs : List Comp)
    → sum_by elements_of (filter p (c ∷ cs)) ≡ cond (p c) (elements_of c) 0 + sum_by elements_of (filter p cs)
sum_by-filter_cons p c cs = counted (p c)
  where
    counted : (b : Bool) → sum_by elements_of (cond b (c ∷ filter p cs) (filter p cs))
        ≡ cond b (elements_of c) 0 + sum_by elements_of (filter p cs)
    counted true = sum_by-cons elements_of c (filter p cs)
    counted false = omega arith

-- a component's plane is new to those that came before and to this one
more_seen : (seen with : Bool) (x y : ℕ) → with ≡ (seen || nat_eq x y) → not with ≡ (not (nat_eq y x) && not seen)
more_seen true with x y e = grind (arith, nat_tests)
more_seen false with x y e = grind (arith, nat_tests)

pub elements_left-more : (cs : List Comp) (i : ℕ) (d : Comp) → i < length cs
    → elements_left cs i ≡ cond (is_new (take i cs) (get_or cs i d)) (elements_of (get_or cs i d)) 0 + elements_left cs (i + 1)
elements_left-more cs i d within =
    let c = get_or cs i d in
    let rest = drop (i + 1) cs in
    let split : drop i cs ≡ c ∷ rest = drop-cons cs i d within ∙ ap (λ k. c ∷ drop k cs) (sym (add-one i)) in
    let others : Comp → Bool = λ e. not (nat_eq e.plane c.plane) in
    let same = λ (e : Comp). more_seen (list_any (λ f. nat_eq f.plane e.plane) (take i cs))
    (list_any (λ f. nat_eq f.plane e.plane) (take (i + 1) cs)) c.plane e.plane
    (list_any_more (λ f. nat_eq f.plane e.plane) cs i d within) in
    ap (λ ds. sum_by elements_of (filter (is_new (take i cs)) (one_a_plane ds))) split
    ∙ sum_by-filter_cons (is_new (take i cs)) c (filter others (one_a_plane rest))
    ∙ ap (λ ds. cond (is_new (take i cs) c) (elements_of c) 0 + sum_by elements_of ds)
    (filter-both (is_new (take i cs)) others (is_new (take (i + 1) cs)) (one_a_plane rest) same)

-- all lie in one plane where one a plane leaves no other
others_more : (here rest : Bool) (c : Comp) (ds es : List Comp) → (here ≡ true → ds ≡ es) → rest ≡ nat_eq (length es) 0
    → (here && rest) ≡ nat_eq (length (cond (not here) (c ∷ ds) ds)) 0
others_more true rest c ds es same none = none ∙ ap (λ cs. nat_eq (length cs) 0) (sym (same refl))
others_more false rest c ds es same none = grind (arith, nat_tests)

others_none : (p : ℕ) (cs : List Comp)
    → list_all (λ c. nat_eq c.plane p) cs ≡ nat_eq (length (filter (λ c. not (nat_eq c.plane p)) (one_a_plane cs))) 0
others_none p [] = refl
others_none p (c ∷ cs) =
    let other : ℕ → Comp → Bool = λ q e. not (nat_eq e.plane q) in
    let one = one_a_plane cs in
    others_more (nat_eq c.plane p) (list_all (λ e. nat_eq e.plane p) cs) c (filter (other p) (filter (other c.plane) one))
    (filter (other p) one)
    (λ here. filter-both (other p) (other c.plane) (other p) one (λ e. same_other c.plane p e.plane here))
    (others_none p cs)
  where
    same_other : (q p e : ℕ) → nat_eq q p ≡ true → not (nat_eq e p) ≡ (not (nat_eq e q) && not (nat_eq e p))
    same_other q p e here = grind (arith, nat_tests)

-- the one plane of all components is the first's
one_more : (n : ℕ) → nat_eq n 0 ≡ nat_eq (suc n) 1
one_more n = grind (arith, nat_tests)

pub length-one_a_plane : (cs : List Comp) (d : Comp) → 0 < length cs
    → list_all (λ c. nat_eq c.plane (get_or cs 0 d).plane) cs ≡ nat_eq (length (one_a_plane cs)) 1
length-one_a_plane [] d some = absurd (omega arith)
length-one_a_plane (c ∷ cs) d some =
    let all = list_all (λ e. nat_eq e.plane c.plane) cs in
    let others = filter (λ e. not (nat_eq e.plane c.plane)) (one_a_plane cs) in
    ap (λ b. b && all) (eq-eqb c.plane c.plane refl) ∙ others_none c.plane cs ∙ one_more (length others)
