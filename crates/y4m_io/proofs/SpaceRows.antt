-- Looking up a row of the program's table of colour spaces.
use Rattle.std.proofs.Common.{◌≡◌, Bool, true, false, List, [], ◌∷◌, map, cond, refl, ap, ◌∙◌}
use Rattle.std.specs.Prelude.{Option, None, Some, find}
use Rattle.std.specs.Option.{option_map}

find-map : {A B : Type 0} (f : A → B) (test : B → Bool) (xs : List A) → option_map f (find (λ x. test (f x)) xs) ≡ find test (map f xs)
find-map f test [] = refl
find-map f test (x ∷ xs) = elim (test (f x)) as (λ b. option_map f (cond b (Some x) (find (λ x. test (f x)) xs)) ≡ cond b (Some (f x))
    (find test (map f xs))) [
      | true ↦ refl
      | false ↦ find-map f test xs
    ]

option_map-map : {A B C : Type 0} (v : A → B) (f : B → C) (o : Option A) → option_map (λ x. f (v x)) o ≡ option_map f (option_map v o)
option_map-map v f None = refl
option_map-map v f (Some x) = refl

-- what is found among the rows is what is found among what they say
pub found_row : {A B C : Type 0} (v : A → B) (f : B → C) (test : C → Bool) (found : Option A) (rows : List B) (all : List C)
    → option_map v found ≡ find (λ row. test (f row)) rows → map f rows ≡ all → option_map (λ x. f (v x)) found ≡ find test all
found_row v f test found rows all is says = option_map-map v f found ∙ ap (option_map f) is ∙ find-map f test rows ∙ ap (find test) says
