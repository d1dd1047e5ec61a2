-- How many numbers of a range pass a test.
use Rattle.std.proofs.Common.{◌≡◌, ℕ, zero, suc, ◌+◌, ◌<◌, ◌≤◌, Bool, true, false, if◌then◌else◌, List, [], ◌∷◌, take, length, get_or, refl}
use Rattle.std.proofs.Common.{ap, ◌∙◌, arith}
use Rattle.std.specs.List.{range_with_len, count_by}
use Rattle.std.proofs.lemmas.Bool.{cond-true, cond-false, both_ways}
use Rattle.std.proofs.lemmas.List.FromFn.{length-range_with_len}
use Rattle.std.proofs.lemmas.List.Sums.{sum_by-cons, sum_by_more_le, sum_by-take-le, sum_by-le-sum_by}
use Rattle.pix_desc.proofs.RangeSearch.{get_or-range}

take-range : (a n k : ℕ) → k ≤ n → take k (range_with_len a n) ≡ range_with_len a k
take-range a n zero within = refl
take-range a zero (suc k) within = absurd (omega arith)
take-range a (suc n) (suc k) within = ap (λ rest. a ∷ rest) (take-range (a + 1) n k (omega arith))

-- one more number passes below a greater bound
pub count_below_more : (p : ℕ → Bool) (n k : ℕ) → k < n → p k ≡ true → count_by p (range_with_len 0 k) + 1 ≤ count_by p (range_with_len 0 n)
count_below_more p n k below passes =
    let one : ℕ → ℕ = λ x. if p x then 1 else 0 in
    let here : one (get_or (range_with_len 0 n) k 0) ≡ 1 = ap one (get_or-range n k below) ∙ cond-true {A = ℕ} (p k) 1 0 passes in
    let more = sum_by_more_le one (range_with_len 0 n) k 0 (omega (arith, length-range_with_len 0 n)) in
    omega (arith, more, here, ap (count_by p) (take-range 0 n k (omega arith)))

pub count_below_le : (p : ℕ → Bool) (n k : ℕ) → k ≤ n → count_by p (range_with_len 0 k) ≤ count_by p (range_with_len 0 n)
count_below_le p n k below =
    omega (arith, sum_by-take-le (λ x. if p x then 1 else 0) (range_with_len 0 n) k, ap (count_by p) (take-range 0 n k below))

weight_le : (x y : Bool) → (x ≡ true → y ≡ true) → (if x then 1 else 0) ≤ (if y then 1 else 0)
weight_le true true along = omega arith
weight_le true false along = absurd (both_ways false refl (along refl))
weight_le false true along = omega arith
weight_le false false along = omega arith

-- no fewer pass a weaker test, and more where one element passes it alone
pub count_weaker : (p q : ℕ → Bool) (xs : List ℕ) → ((x : ℕ) → p x ≡ true → q x ≡ true) → count_by p xs ≤ count_by q xs
count_weaker p q xs along =
    sum_by-le-sum_by (λ x. if p x then 1 else 0) (λ x. if q x then 1 else 0) xs (λ x. weight_le (p x) (q x) (along x))

count_more_of : (p q : ℕ → Bool) (xs : List ℕ) (i : ℕ) → ((x : ℕ) → p x ≡ true → q x ≡ true) → i < length xs → p (get_or xs i 0) ≡ false
    → q (get_or xs i 0) ≡ true
    → count_by p xs + 1 ≤ count_by q xs
count_more_of p q [] i along within fails passes = absurd (omega arith)
count_more_of p q (x ∷ xs) zero along within fails passes =
    omega (
      arith,
      sum_by-cons (λ t. if p t then 1 else 0) x xs,
      sum_by-cons (λ t. if q t then 1 else 0) x xs,
      cond-false {A = ℕ}
          (p x) 1 0 fails,
      cond-true {A = ℕ} (q x) 1 0 passes,
      count_weaker p q xs along,
    )
count_more_of p q (x ∷ xs) (suc i) along within fails passes =
    omega (
      arith,
      sum_by-cons (λ t. if p t then 1 else 0) x xs,
      sum_by-cons (λ t. if q t then 1 else 0) x xs,
      weight_le (p x) (q x) (along x),
      count_more_of p q xs i along (omega arith) fails passes,
    )

pub count_more : (p q : ℕ → Bool) (n i : ℕ) → ((x : ℕ) → p x ≡ true → q x ≡ true) → i < n → p i ≡ false → q i ≡ true
    → count_by p (range_with_len 0 n) + 1 ≤ count_by q (range_with_len 0 n)
count_more p q n i along within fails passes =
    count_more_of p q (range_with_len 0 n) i along (omega (arith, length-range_with_len 0 n)) (ap p (get_or-range n i within) ∙ fails)
    (ap q (get_or-range n i within) ∙ passes)
