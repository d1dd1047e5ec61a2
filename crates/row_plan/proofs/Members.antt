-- Elements of a list: of one put after another, of the lists for each element, and of one in which a test finds something.
use Rattle.std.proofs.Common.{◌≡◌, ⊎_elim, inl, inr, Bool, true, false, ◌||◌, List, [], ◌∷◌, ◌++◌, refl, subst}
use Rattle.std.proofs.lemmas.Bool.{cases_Bool}
use Rattle.std.specs.List.{list_any}
use Rattle.op_build.specs.SideClasses.{for_each, IsOneOf}

pub in_first : {A : Type 0} (x : A) (xs ys : List A) → IsOneOf x xs → IsOneOf x (xs ++ ys)
in_first x [] ys p = absurd p
in_first x (z ∷ xs) ys (inl e) = inl e
in_first x (z ∷ xs) ys (inr p) = inr (in_first x xs ys p)

pub in_second : {A : Type 0} (x : A) (xs ys : List A) → IsOneOf x ys → IsOneOf x (xs ++ ys)
in_second x [] ys p = p
in_second x (z ∷ xs) ys p = inr (in_second x xs ys p)

pub in_each : {A B : Type 0} (f : A → List B) (x : A) (xs : List A) (y : B) → IsOneOf x xs → IsOneOf y (f x) → IsOneOf y (for_each xs f)
in_each f x [] y p q = absurd p
in_each f x (z ∷ xs) y (inl e) q = in_first y (f z) (for_each xs f) (subst (λ w. IsOneOf y (f w)) e q)
in_each f x (z ∷ xs) y (inr p) q = in_second y (f z) (for_each xs f) (in_each f x xs y p q)

-- an element that passes the test
pub found_one : {A P : Type 0} (test : A → Bool) (xs : List A) → list_any test xs ≡ true → ((x : A) → IsOneOf x xs → test x ≡ true → P) → P
found_one test [] h use_it = absurd (cc)
found_one test (x ∷ xs) h use_it =
    ⊎_elim
    (λ (passes : test x ≡ true). use_it x (inl refl) passes)
    (λ (fails : test x ≡ false). found_one test xs (rest (test x) (list_any test xs) fails h) (λ y p passes. use_it y (inr p) passes))
    (cases_Bool (test x))
  where
    rest : (a b : Bool) → a ≡ false → (a || b) ≡ true → b ≡ true
    rest true b e h = absurd (cc)
    rest false b e h = h
