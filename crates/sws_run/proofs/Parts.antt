-- A list of parts, cut at its element k.
use Rattle.std.proofs.Common.{◌≡◌, ℕ, ◌+◌, ◌<◌, ◌≤◌, List, [], ◌∷◌, ◌++◌, length, refl, sym, ap, ◌∙◌, arith, subst}
use Rattle.std.proofs.Common.{take, drop, append-nil, length-append, length-drop, length-take-le, take-append-drop}
use Rattle.std.proofs.lemmas.List.{drop-drop, take-append-le}
use Rattle.std.proofs.Math.Seq.{take-append-add, take-add}
use Rattle.std.specs.List.{sum_by, concat}
use Rattle.std.proofs.lemmas.List.Folds.{concat-append}
use Rattle.std.proofs.lemmas.List.Sums.{sum_by-cons, sum_by-append}
use Rattle.sws_run.specs.Cut.{whole_within}
use Rattle.sws_run.proofs.Whole.{IsBelowFirst, whole_at}

-- element k stands there, and these behind it
pub record StandsAt {X : Type 0} (k : ℕ) (x : X) (xs all : List X) : Type 0 where
  pub within : k + 1 ≤ length all
  pub front : take (k + 1) all ≡ take k all ++ (x ∷ [])
  pub behind : drop (k + 1) all ≡ xs
  pub here : drop k all ≡ x ∷ xs

pub stands_at : {X : Type 0} (k : ℕ) (x : X) (xs all : List X) → k ≤ length all → drop k all ≡ x ∷ xs → StandsAt k x xs all
stands_at k x xs all within here = record {
  within = omega (arith, ap length here, length-drop k all);
  front = take-add k 1 all ∙ ap (λ l. take k all ++ take 1 l) here;
  behind = sym (drop-drop 1 k all) ∙ ap (drop 1) here;
  here = here;
}

-- nothing stands there
pub ends_at : {X : Type 0} (k : ℕ) (all : List X) → k ≤ length all → drop k all ≡ [] → length all ≡ k
ends_at k all within none = omega (arith, ap length none, length-drop k all)

pub length-concat : (xs : List (List ℕ)) → length (concat xs) ≡ sum_by length xs
length-concat [] = refl
length-concat (x ∷ xs) = length-append x (concat xs) ∙ ap (λ n. length x + n) (length-concat xs) ∙ sym (sum_by-cons length x xs)

-- one part more
pub concat-next : (k : ℕ) (x : List ℕ) (xs all : List (List ℕ)) → StandsAt k x xs all → concat (take (k + 1) all) ≡ concat (take k all) ++ x
concat-next k x xs all at =
    ap concat at.front ∙ concat-append (take k all) (x ∷ []) ∙ ap (λ l. concat (take k all) ++ l) (append-nil x)

pub sum-next : {X : Type 0} (f : X → ℕ) (k : ℕ) (x : X) (xs all : List X) → StandsAt k x xs all
    → sum_by f (take (k + 1) all) ≡ sum_by f (take k all) + f x
sum-next f k x xs all at =
    ap (sum_by f) at.front ∙ sum_by-append f (take k all) (x ∷ [])
    ∙ ap (λ n. sum_by f (take k all) + n) (sum_by-cons f x [] ∙ (let e : f x + 0 ≡ f x = omega arith in e))

-- the parts that lie wholly in the first k and fewer bytes than the next has
pub whole-at : {X : Type 0} (f : X → ℕ) (k m : ℕ) (all : List X) → k ≤ length all → IsBelowFirst f m (drop k all)
    → whole_within f (sum_by f (take k all) + m) all ≡ k
whole-at f k m all within below =
    ap (whole_within f (sum_by f (take k all) + m)) (sym (take-append-drop k all)) ∙ whole_at f (take k all) (drop k all) m below
    ∙ length-take-le k all within

-- a front that ends in part k
pub record EndsIn (k m : ℕ) (x : List ℕ) (all : List (List ℕ)) : Type 0 where
  pub shorter : length (concat (take k all)) + m < length (concat all)
  pub front : take (length (concat (take k all)) + m) (concat all) ≡ concat (take k all) ++ take m x
  pub whole : k ≡ whole_within length (length (concat (take k all)) + m) all

pub ends_in : (k m : ℕ) (x : List ℕ) (xs all : List (List ℕ)) → StandsAt k x xs all → m < length x → EndsIn k m x all
ends_in k m x xs all at part =
    let front = concat (take k all) in
    let whole : concat all ≡ front ++ (x ++ concat xs) =
    ap concat (sym (take-append-drop k all)) ∙ concat-append (take k all) (drop k all) ∙ ap (λ l. front ++ concat l) at.here in
    let size : length (concat all) ≡ length front + (length x + length (concat xs)) =
    ap length whole ∙ length-append front (x ++ concat xs) ∙ ap (λ n. length front + n) (length-append x (concat xs)) in
    let below : IsBelowFirst length m (drop k all) = subst (IsBelowFirst length m) (sym at.here) part in
    let inside : k ≤ length all = omega (arith, at.within) in
    record {
      shorter = omega (arith, size, part);
      front = ap (take (length front + m)) whole ∙ take-append-add front (x ++ concat xs) m
          ∙ ap (λ l. front ++ l) (take-append-le m x (concat xs) (let le : m ≤ length x = omega (arith, part) in le));
      whole = sym (ap (λ n. whole_within length (n + m) all) (length-concat (take k all)) ∙ whole-at length k m all inside below);
    }
