-- The last item of a chain.
use Rattle.std.proofs.Common.{◌≡◌, List, [], ◌∷◌, map, refl, ap, ◌∙◌}
use Rattle.std.specs.Prelude.{Option, None, Some}
use Rattle.std.specs.Option.{option_map}
use Rattle.std.specs.List.{last_or}
use Rattle.std.specs.Iterator.{Drains}
use Rattle.std.proofs.lemmas.Iterator.{YieldsList, items_from_drains}

last_or-map : {A B : Type 0} (v : A → B) (o : Option A) (xs : List A) → option_map v (last_or o xs) ≡ last_or (option_map v o) (map v xs)
last_or-map v o [] = refl
last_or-map v o (x ∷ xs) = last_or-map v (Some x) xs

-- `last` gives the last item of the chain's list
pub last_from_yields_List : {S A B : Type 0} {steps : S → Option A → S → Type 0} {v : A → B} {s : S} {all : List B} (r : Option A)
    → ((xs : List A) × Drains steps s xs × (r ≡ last_or None xs)) → YieldsList steps v s all → option_map v r ≡ last_or None all
last_from_yields_List {v = v} r ran road = ap (option_map v) ran.2 ∙ last_or-map v None ran.0
    ∙ ap (last_or None) (items_from_drains ran.0 (ran.1.1.0, ran.1.1.1, λ _. (ran.1.0, ran.1.1.2)) road)

pub option_map_same : {A : Type 0} (o : Option A) → option_map (λ x. x) o ≡ o
option_map_same None = refl
option_map_same (Some x) = refl
