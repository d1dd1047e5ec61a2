-- What is made of the elements of a list, one behind the other.
use Rattle.std.proofs.Common.{◌≡◌, ℕ, suc, ◌+◌, ◌<◌, subst, List, [], ◌∷◌, ◌++◌, length, map, get_or, set, take, drop, sym, ◌∙◌, ap}
use Rattle.std.specs.List.{concat}
use Rattle.std.proofs.lemmas.List.{append-nil, map-append, take_more, take_more_set, set_split, set-get_or}
use Rattle.std.proofs.lemmas.List.{length-map}
use Rattle.std.proofs.Math.ListN.{get_or-map}
use Rattle.std.proofs.lemmas.List.Elements.{All-get_or}
use Rattle.std.proofs.lemmas.List.Folds.{concat-append}
use Rattle.std.specs.Prelude.{All}

module _ {X : Type 0} (f : X → List ℕ) where
  pub chain-append : (xs ys : List X) → concat (map f (xs ++ ys)) ≡ concat (map f xs) ++ concat (map f ys)
  chain-append xs ys = ap concat (map-append f xs ys) ∙ concat-append (map f xs) (map f ys)

  chain_last : (xs : List X) (x : X) → concat (map f (xs ++ (x ∷ []))) ≡ concat (map f xs) ++ f x
  chain_last xs x = chain-append xs (x ∷ []) ∙ ap (λ l. concat (map f xs) ++ l) (append-nil (f x))

  -- one element more
  pub chain_more : (xs : List X) (i : ℕ) (d : X) → i < length xs → concat (map f (take (i + 1) xs)) ≡ concat (map f (take i xs))
      ++ f (get_or xs i d)
  chain_more xs i d within = ap (λ l. concat (map f l)) (take_more xs i d within) ∙ chain_last (take i xs) (get_or xs i d)

  pub chain_more_set : (xs : List X) (i : ℕ) (y : X) → i < length xs → concat (map f (take (i + 1) (set xs i y)))
      ≡ concat (map f (take i xs)) ++ f y
  chain_more_set xs i y within = ap (λ l. concat (map f l)) (take_more_set xs i y within) ∙ chain_last (take i xs) y

  -- all elements, those before one, that one, and those behind it
  pub chain_set : (xs : List X) (i : ℕ) (y : X) → i < length xs → concat (map f (set xs i y)) ≡ concat (map f (take i xs))
      ++ (f y ++ concat (map f (drop (suc i) xs)))
  chain_set xs i y within = ap (λ l. concat (map f l)) (set_split xs i y within) ∙ chain-append (take i xs) (y ∷ drop (suc i) xs)

  pub chain_whole : (xs : List X) (i : ℕ) (d : X) → i < length xs
      → concat (map f xs) ≡ concat (map f (take i xs)) ++ (f (get_or xs i d) ++ concat (map f (drop (suc i) xs)))
  chain_whole xs i d within = ap (λ l. concat (map f l)) (sym (set-get_or xs i d)) ∙ chain_set xs i (get_or xs i d) within

-- ---- place by place

-- what holds of all that f makes holds of what it makes of one
pub all_at : {X Y : Type 0} (P : Y → Type 0) (f : X → Y) (xs : List X) (i : ℕ) (d : X) → i < length xs → All P (map f xs)
    → P (f (get_or xs i d))
all_at P f xs i d within all =
    subst P (get_or-map f xs i d) (All-get_or P (map f xs) i (f d) (subst (λ n. i < n) (sym (length-map xs f)) within) all)

module _ {X Y : Type 0} (f : X → Y) where
  pub map_more : (xs : List X) (i : ℕ) (d : X) → i < length xs → map f (take (i + 1) xs) ≡ map f (take i xs) ++ (f (get_or xs i d) ∷ [])
  map_more xs i d within = ap (map f) (take_more xs i d within) ∙ map-append f (take i xs) (get_or xs i d ∷ [])

  pub map_more_set : (xs : List X) (i : ℕ) (y : X) → i < length xs → map f (take (i + 1) (set xs i y)) ≡ map f (take i xs) ++ (f y ∷ [])
  map_more_set xs i y within = ap (map f) (take_more_set xs i y within) ∙ map-append f (take i xs) (y ∷ [])
