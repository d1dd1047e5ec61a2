-- Bytes of two and of four values, in turn.
use Rattle.std.proofs.Common.{◌≡◌, ℕ, zero, suc, ◌+◌, ◌-◌, ◌*◌, ◌<◌, ◌≤◌, List, ◌++◌, length, get_or, sym, ap, ◌∙◌, arith}
use Rattle.std.proofs.lemmas.List.{get_or_append_left, get_or-append_right}
use Rattle.std.proofs.lemmas.Simd.{get_or-chunk}
use Rattle.std.specs.Simd.Lanes.{chunk}

pub two_cases : (P : ℕ → Type 0) → P 0 → P 1 → (v : ℕ) → v < 2 → P v
two_cases P a b zero few = a
two_cases P a b (suc zero) few = b
two_cases P a b (suc (suc v)) few = absurd (omega (arith, few))

pub four_cases : (P : ℕ → Type 0) → P 0 → P 1 → P 2 → P 3 → (v : ℕ) → v < 4 → P v
four_cases P a b c d zero few = a
four_cases P a b c d (suc zero) few = b
four_cases P a b c d (suc (suc zero)) few = c
four_cases P a b c d (suc (suc (suc zero))) few = d
four_cases P a b c d (suc (suc (suc (suc v)))) few = absurd (omega (arith, few))

-- a byte of a vector that was loaded
pub of_load : (values : List ℕ) (at j m : ℕ) → j < 16 → at + j ≡ m → get_or (chunk at 16 values) j 0 ≡ get_or values m 0
of_load values at j m small same = get_or-chunk at 16 values j 0 small ∙ ap (λ t. get_or values t 0) same

-- a byte of the first vector of two, and of the second one
pub of_low : (x y : List ℕ) (m k given : ℕ) → length x ≡ 16 → m < 16 → m ≡ k → get_or (x ++ y) k 0 ≡ given → get_or x m 0 ≡ given
of_low x y m k given long small same is =
    sym (get_or_append_left x y 0 m (omega (arith, long, small))) ∙ ap (λ t. get_or (x ++ y) t 0) same ∙ is

pub of_high : (x y : List ℕ) (m k given : ℕ) → length x ≡ 16 → 16 + m ≡ k → get_or (x ++ y) k 0 ≡ given → get_or y m 0 ≡ given
of_high x y m k given long same is =
    let back : k - 16 ≡ m = omega (arith, same) in
    sym (ap (λ t. get_or y t 0) back) ∙ sym (get_or-append_right x y 16 k 0 long (omega (arith, same))) ∙ is

-- bytes of two vectors in turn, in turn with those of two others: four values of a pixel
pub four_in_turn : (whole even odd values : List ℕ) (first p j : ℕ) → p + 8 ≤ 16 → j < 8
    → ((m : ℕ) → m < 16 → get_or whole (2 * m) 0 ≡ get_or even m 0)
    → ((m : ℕ) → m < 16 → get_or whole (2 * m + 1) 0 ≡ get_or odd m 0)
    → get_or even (2 * j) 0 ≡ get_or (chunk first 16 values) (p + j) 0
    → get_or odd (2 * j) 0 ≡ get_or (chunk (64 + first) 16 values) (p + j) 0
    → get_or even (2 * j + 1) 0 ≡ get_or (chunk (128 + first) 16 values) (p + j) 0
    → get_or odd (2 * j + 1) 0 ≡ get_or (chunk (192 + first) 16 values) (p + j) 0
    → (v : ℕ) → v < 4 → get_or whole (4 * j + v) 0 ≡ get_or values (64 * v + (first + (p + j))) 0
four_in_turn whole even odd values first p j room small evens odds a b c d =
    let at : (k m : ℕ) → k ≡ m → get_or whole k 0 ≡ get_or whole m 0 = λ k m same. ap (λ t. get_or whole t 0) same in
    four_cases (λ v. get_or whole (4 * j + v) 0 ≡ get_or values (64 * v + (first + (p + j))) 0)
    (at (4 * j + 0) (2 * (2 * j)) (omega arith) ∙ evens (2 * j) (omega arith) ∙ a
    ∙ of_load values first (p + j) (64 * 0 + (first + (p + j))) (omega arith) (omega arith))
    (at (4 * j + 1) (2 * (2 * j) + 1) (omega arith) ∙ odds (2 * j) (omega arith) ∙ b
    ∙ of_load values (64 + first) (p + j) (64 * 1 + (first + (p + j))) (omega arith) (omega arith))
    (at (4 * j + 2) (2 * (2 * j + 1)) (omega arith) ∙ evens (2 * j + 1) (omega arith) ∙ c
    ∙ of_load values (128 + first) (p + j) (64 * 2 + (first + (p + j))) (omega arith) (omega arith))
    (at (4 * j + 3) (2 * (2 * j + 1) + 1) (omega arith) ∙ odds (2 * j + 1) (omega arith) ∙ d
    ∙ of_load values (192 + first) (p + j) (64 * 3 + (first + (p + j))) (omega arith) (omega arith))
