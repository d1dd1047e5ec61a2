-- The first number of a range that passes a test.
use Rattle.std.proofs.Common.{◌≡◌, ◌≢◌, ℕ, zero, suc, ◌<◌, ◌≤◌, ⊎_elim, Bool, true, false, ◌&&◌, length, get_or, Some, None, sym, refl, ap}
use Rattle.std.proofs.Common.{◌∙◌, arith}
use Rattle.std.specs.List.{range_with_len, find, position_or_len, slice_get}
use Rattle.std.proofs.lemmas.Bool.{and_from, cases_lt}
use Rattle.std.proofs.lemmas.List.Folds.{find_at}
use Rattle.std.proofs.lemmas.List.FromFn.{length-range_with_len, get_or-range_with_len}
use Rattle.std.proofs.lemmas.List.Sums.{position_or_len_is, fails_before_first, passes_at_first}
use Rattle.std.proofs.lemmas.Option.{slice_get-get_or, slice_get_within, get_or_from_slice_get}

-- number k of a range
pub get_or-range : (n k : ℕ) → k < n → get_or (range_with_len 0 n) k 0 ≡ k
get_or-range n k within = omega (arith, get_or-range_with_len 0 n k 0 within)

-- the only number below n that passes is found
pub find_only : (p : ℕ → Bool) (n j : ℕ) → j < n → p j ≡ true → ((k : ℕ) → k < n → k ≢ j → p k ≡ false)
    → find p (range_with_len 0 n) ≡ Some j
find_only p n j within passes others =
    let range = range_with_len 0 n in
    let long : length range ≡ n = length-range_with_len 0 n in
    let before = λ (k : ℕ) (below : k < j). ap p (get_or-range n k (omega arith)) ∙ others k (omega arith) (omega arith) in
    let position : position_or_len p range ≡ j = position_or_len_is p range j 0 (omega arith) before
    (λ _. ap p (get_or-range n j within) ∙ passes) in
    find_at p range ∙ ap (slice_get range) position ∙ slice_get-get_or range j 0 (omega arith) ∙ ap Some (get_or-range n j within)

-- what is found is below n and passes
pub found_passes : (p : ℕ → Bool) (n j : ℕ) → find p (range_with_len 0 n) ≡ Some j → (j < n) × (p j ≡ true)
found_passes p n j found =
    let range = range_with_len 0 n in
    let position = position_or_len p range in
    let at : slice_get range position ≡ Some j = sym (find_at p range) ∙ found in
    let within : position < length range = slice_get_within range position j at in
    let below : position < n = omega (arith, length-range_with_len 0 n) in
    let is : get_or range position 0 ≡ j = get_or_from_slice_get range position j 0 at in
    let same : position ≡ j = sym (get_or-range n position below) ∙ is in
    (omega arith, ap p (sym is) ∙ passes_at_first p range 0 within)

-- where none is found, none passes
pub none_passes : (p : ℕ → Bool) (n k : ℕ) → find p (range_with_len 0 n) ≡ None → k < n → p k ≡ false
none_passes p n k none within =
    let range = range_with_len 0 n in
    let position = position_or_len p range in
    let long : length range ≡ n = length-range_with_len 0 n in
    ⊎_elim
    (λ (inside : position < length range).
    let some : None ≡ Some (get_or range position 0) = sym none ∙ find_at p range ∙ slice_get-get_or range position 0 inside in
    absurd cc)
    (λ (past : length range ≤ position). ap p (sym (get_or-range n k within)) ∙ fails_before_first p range k 0 (omega arith))
    (cases_lt position (length range))
