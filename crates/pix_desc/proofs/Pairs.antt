-- Tests over all pairs of components.
use Rattle.std.proofs.Common.{◌≡◌, Bool, true, false, not, ◌||◌, ◌&&◌, List, [], ◌∷◌, refl, ◌∙◌, ap, arith}
use Rattle.std.specs.List.{list_any, list_all}
use Rattle.std.proofs.lemmas.Bool.Decides.{nat_tests}
use Rattle.pix_desc.specs.declared.desc.Comp.{Comp}
use Rattle.pix_desc.specs.Layouts.{some_two, differ_in_step, differ_in_shape}

-- some element passes one of two tests where some passes the first or some passes the second
either : (a b x y z : Bool) → z ≡ (x || y) → (a || b || z) ≡ (a || x || (b || y))
either true b x y z e = refl
either false true true y z e = refl
either false true false y z e = refl
either false false x y z e = e

list_any-or : (p q : Comp → Bool) (cs : List Comp) → list_any (λ c. p c || q c) cs ≡ (list_any p cs || list_any q cs)
list_any-or p q [] = refl
list_any-or p q (c ∷ cs) = either (p c) (q c) (list_any p cs) (list_any q cs) _ (list_any-or p q cs)

-- tests that agree at each element have one answer
list_any-same : (p q : Comp → Bool) (cs : List Comp) → ((c : Comp) → p c ≡ q c) → list_any p cs ≡ list_any q cs
list_any-same p q [] same = refl
list_any-same p q (c ∷ cs) same = ap (λ b. b || list_any p cs) (same c) ∙ ap (λ b. q c || b) (list_any-same p q cs same)

once : (here x y z s u : Bool) → here ≡ false → u ≡ (y || z) → y ≡ x → z ≡ s → (here || x || u) ≡ (x || s)
once here true y z s u none both first second = cc
once here false y z s u none both first second = cc

-- where no element is so with itself, and the order does not matter, some two of all are so where an earlier and a later one are
pub some_two-all : (have : Comp → Comp → Bool) (cs : List Comp) → ((a : Comp) → have a a ≡ false) → ((a b : Comp) → have a b ≡ have b a)
    → list_any (λ a. list_any (have a) cs) cs ≡ some_two have cs
some_two-all have [] none turned = refl
some_two-all have (c ∷ cs) none turned =
    once (have c c) (list_any (have c) cs) (list_any (λ a. have a c) cs) (list_any (λ a. list_any (have a) cs) cs) (some_two have cs) _
    (none c)
    (list_any-or (λ a. have a c) (λ a. list_any (have a) cs) cs)
    (list_any-same (λ a. have a c) (have c) cs (λ a. turned a c))
    (some_two-all have cs none turned)

-- all elements pass a test where none fails it
pub list_all-not_any : (p : Comp → Bool) (cs : List Comp) → list_all p cs ≡ not (list_any (λ c. not (p c)) cs)
list_all-not_any p [] = refl
list_all-not_any p (c ∷ cs) = denied (p c) (list_all p cs) (list_any (λ d. not (p d)) cs) (list_all-not_any p cs)
  where
    denied : (a b n : Bool) → b ≡ not n → (a && b) ≡ not (not a || n)
    denied true b n e = e
    denied false b n e = refl

-- `differ_in_step` and `differ_in_shape` are such tests
pub some_two-differ_in_step : (cs : List Comp) → list_any (λ a. list_any (differ_in_step a) cs) cs ≡ some_two differ_in_step cs
some_two-differ_in_step cs = some_two-all differ_in_step cs (λ a. grind (arith, nat_tests)) (λ a b. grind (arith, nat_tests))

pub some_two-differ_in_shape : (cs : List Comp) → list_any (λ a. list_any (differ_in_shape a) cs) cs ≡ some_two differ_in_shape cs
some_two-differ_in_shape cs = some_two-all differ_in_shape cs (λ a. grind (arith, nat_tests)) (λ a b. grind (arith, nat_tests))
