-- What the shuffles of sixteen pixels take.
use Rattle.std.proofs.Common.{◌≡◌, ℕ, zero, suc, ◌+◌, ◌*◌, ◌-◌, ◌/◌, ◌%◌, ◌<◌, ◌≤◌, ⊎_elim, List, [], ◌∷◌, ◌++◌, length, get_or, refl, ap}
use Rattle.std.proofs.Common.{◌∙◌, arith}
use Rattle.std.proofs.lemmas.Bool.{cases_lt}
use Rattle.std.proofs.lemmas.List.{get_or_append_left, get_or-append_right}
use Rattle.std.proofs.lemmas.Simd.{get_or-chunk, length-chunk}
use Rattle.std.specs.Simd.Lanes.{chunk}

-- of two parts of sixteen bytes that stand together
pub of_parts : (from : List ℕ) (at k : ℕ) → at + 32 ≤ length from → k < 32
    → get_or (chunk at 16 from ++ chunk (at + 16) 16 from) k 0 ≡ get_or from (at + k) 0
of_parts from at k room small =
    let long : length (chunk at 16 from) ≡ 16 = length-chunk at 16 from (omega arith) in
    ⊎_elim
    (λ (lt : k < 16). get_or_append_left (chunk at 16 from) (chunk (at + 16) 16 from) 0 k (omega arith) ∙ get_or-chunk at 16 from k 0 lt)
    (λ (ge : 16 ≤ k).
    let position : at + 16 + (k - 16) ≡ at + k = omega arith in
    get_or-append_right (chunk at 16 from) (chunk (at + 16) 16 from) 16 k 0 long ge
    ∙ get_or-chunk (at + 16) 16 from (k - 16) 0 (omega arith) ∙ ap (λ t. get_or from t 0) position)
    (cases_lt k 16)

-- of the first two of three
pub of_two : (from : List ℕ) (at k : ℕ) → at + 48 ≤ length from → k < 32
    → get_or (chunk at 16 from ++ chunk (at + 16) 16 from) k 0 ≡ get_or from (at + k) 0
of_two from at k room small = of_parts from at k (omega (arith, room)) small

-- of the third one
pub of_third : (from : List ℕ) (at k m : ℕ) → k < 16 → 32 + k ≡ m → get_or (chunk (at + 32) 16 from) k 0 ≡ get_or from (at + m) 0
of_third from at k m small same =
    let position : at + 32 + k ≡ at + m = omega arith in get_or-chunk (at + 32) 16 from k 0 small ∙ ap (λ t. get_or from t 0) position

abbrev pub two : List ℕ → ℕ → ℕ → ℕ
two from at k = get_or (chunk at 16 from ++ chunk (at + 16) 16 from) k 0

abbrev pub third : List ℕ → ℕ → ℕ → ℕ
third from at k = get_or (chunk (at + 32) 16 from) k 0

abbrev pub first_list : List ℕ → ℕ → List ℕ
first_list from at = two from at 0 ∷ two from at 3 ∷ two from at 6 ∷ two from at 9 ∷ two from at 12 ∷ two from at 15 ∷ two from at 18
    ∷ two from at 21 ∷ two from at 24 ∷ two from at 27 ∷ two from at 30 ∷ third from at 1 ∷ third from at 4 ∷ third from at 7
    ∷ third from at 10 ∷ third from at 13 ∷ []

pub first_is : (from : List ℕ) (at j : ℕ) → at + 48 ≤ length from → j < 16
    → get_or (first_list from at) j 0 ≡ get_or from (at + (3 * j + 0)) 0
first_is from at zero room small = of_two from at 0 room (omega arith)
first_is from at (suc zero) room small = of_two from at 3 room (omega arith)
first_is from at (suc (suc zero)) room small = of_two from at 6 room (omega arith)
first_is from at (suc (suc (suc zero))) room small = of_two from at 9 room (omega arith)
first_is from at (suc (suc (suc (suc zero)))) room small = of_two from at 12 room (omega arith)
first_is from at (suc (suc (suc (suc (suc zero))))) room small = of_two from at 15 room (omega arith)
first_is from at (suc (suc (suc (suc (suc (suc zero)))))) room small = of_two from at 18 room (omega arith)
first_is from at (suc (suc (suc (suc (suc (suc (suc zero))))))) room small = of_two from at 21 room (omega arith)
first_is from at (suc (suc (suc (suc (suc (suc (suc (suc zero)))))))) room small = of_two from at 24 room (omega arith)
first_is from at (suc (suc (suc (suc (suc (suc (suc (suc (suc zero))))))))) room small = of_two from at 27 room (omega arith)
first_is from at (suc (suc (suc (suc (suc (suc (suc (suc (suc (suc zero)))))))))) room small = of_two from at 30 room (omega arith)
first_is from at (suc (suc (suc (suc (suc (suc (suc (suc (suc (suc (suc zero))))))))))) room small =
    of_third from at 1 33 (omega arith) refl
first_is from at (suc (suc (suc (suc (suc (suc (suc (suc (suc (suc (suc (suc zero)))))))))))) room small =
    of_third from at 4 36 (omega arith) refl
first_is from at (suc (suc (suc (suc (suc (suc (suc (suc (suc (suc (suc (suc (suc zero))))))))))))) room small =
    of_third from at 7 39 (omega arith) refl
first_is from at (suc (suc (suc (suc (suc (suc (suc (suc (suc (suc (suc (suc (suc (suc zero)))))))))))))) room small =
    of_third from at 10 42 (omega arith) refl
first_is from at (suc (suc (suc (suc (suc (suc (suc (suc (suc (suc (suc (suc (suc (suc (suc zero))))))))))))))) room small =
    of_third from at 13 45 (omega arith) refl
first_is from at (suc (suc (suc (suc (suc (suc (suc (suc (suc (suc (suc (suc (suc (suc (suc (suc j)))))))))))))))) room small =
    absurd (omega (arith, small))

abbrev pub second_list : List ℕ → ℕ → List ℕ
second_list from at = two from at 1 ∷ two from at 4 ∷ two from at 7 ∷ two from at 10 ∷ two from at 13 ∷ two from at 16 ∷ two from at 19
    ∷ two from at 22 ∷ two from at 25 ∷ two from at 28 ∷ two from at 31 ∷ third from at 2 ∷ third from at 5 ∷ third from at 8
    ∷ third from at 11 ∷ third from at 14 ∷ []

pub second_is : (from : List ℕ) (at j : ℕ) → at + 48 ≤ length from → j < 16
    → get_or (second_list from at) j 0 ≡ get_or from (at + (3 * j + 1)) 0
second_is from at zero room small = of_two from at 1 room (omega arith)
second_is from at (suc zero) room small = of_two from at 4 room (omega arith)
second_is from at (suc (suc zero)) room small = of_two from at 7 room (omega arith)
second_is from at (suc (suc (suc zero))) room small = of_two from at 10 room (omega arith)
second_is from at (suc (suc (suc (suc zero)))) room small = of_two from at 13 room (omega arith)
second_is from at (suc (suc (suc (suc (suc zero))))) room small = of_two from at 16 room (omega arith)
second_is from at (suc (suc (suc (suc (suc (suc zero)))))) room small = of_two from at 19 room (omega arith)
second_is from at (suc (suc (suc (suc (suc (suc (suc zero))))))) room small = of_two from at 22 room (omega arith)
second_is from at (suc (suc (suc (suc (suc (suc (suc (suc zero)))))))) room small = of_two from at 25 room (omega arith)
second_is from at (suc (suc (suc (suc (suc (suc (suc (suc (suc zero))))))))) room small = of_two from at 28 room (omega arith)
second_is from at (suc (suc (suc (suc (suc (suc (suc (suc (suc (suc zero)))))))))) room small = of_two from at 31 room (omega arith)
second_is from at (suc (suc (suc (suc (suc (suc (suc (suc (suc (suc (suc zero))))))))))) room small =
    of_third from at 2 34 (omega arith) refl
second_is from at (suc (suc (suc (suc (suc (suc (suc (suc (suc (suc (suc (suc zero)))))))))))) room small =
    of_third from at 5 37 (omega arith) refl
second_is from at (suc (suc (suc (suc (suc (suc (suc (suc (suc (suc (suc (suc (suc zero))))))))))))) room small =
    of_third from at 8 40 (omega arith) refl
second_is from at (suc (suc (suc (suc (suc (suc (suc (suc (suc (suc (suc (suc (suc (suc zero)))))))))))))) room small =
    of_third from at 11 43 (omega arith) refl
second_is from at (suc (suc (suc (suc (suc (suc (suc (suc (suc (suc (suc (suc (suc (suc (suc zero))))))))))))))) room small =
    of_third from at 14 46 (omega arith) refl
second_is from at (suc (suc (suc (suc (suc (suc (suc (suc (suc (suc (suc (suc (suc (suc (suc (suc j)))))))))))))))) room small =
    absurd (omega (arith, small))

abbrev pub third_list : List ℕ → ℕ → List ℕ
third_list from at = two from at 2 ∷ two from at 5 ∷ two from at 8 ∷ two from at 11 ∷ two from at 14 ∷ two from at 17 ∷ two from at 20
    ∷ two from at 23 ∷ two from at 26 ∷ two from at 29 ∷ third from at 0 ∷ third from at 3 ∷ third from at 6 ∷ third from at 9
    ∷ third from at 12 ∷ third from at 15 ∷ []

pub third_is : (from : List ℕ) (at j : ℕ) → at + 48 ≤ length from → j < 16
    → get_or (third_list from at) j 0 ≡ get_or from (at + (3 * j + 2)) 0
third_is from at zero room small = of_two from at 2 room (omega arith)
third_is from at (suc zero) room small = of_two from at 5 room (omega arith)
third_is from at (suc (suc zero)) room small = of_two from at 8 room (omega arith)
third_is from at (suc (suc (suc zero))) room small = of_two from at 11 room (omega arith)
third_is from at (suc (suc (suc (suc zero)))) room small = of_two from at 14 room (omega arith)
third_is from at (suc (suc (suc (suc (suc zero))))) room small = of_two from at 17 room (omega arith)
third_is from at (suc (suc (suc (suc (suc (suc zero)))))) room small = of_two from at 20 room (omega arith)
third_is from at (suc (suc (suc (suc (suc (suc (suc zero))))))) room small = of_two from at 23 room (omega arith)
third_is from at (suc (suc (suc (suc (suc (suc (suc (suc zero)))))))) room small = of_two from at 26 room (omega arith)
third_is from at (suc (suc (suc (suc (suc (suc (suc (suc (suc zero))))))))) room small = of_two from at 29 room (omega arith)
third_is from at (suc (suc (suc (suc (suc (suc (suc (suc (suc (suc zero)))))))))) room small = of_third from at 0 32 (omega arith) refl
third_is from at (suc (suc (suc (suc (suc (suc (suc (suc (suc (suc (suc zero))))))))))) room small =
    of_third from at 3 35 (omega arith) refl
third_is from at (suc (suc (suc (suc (suc (suc (suc (suc (suc (suc (suc (suc zero)))))))))))) room small =
    of_third from at 6 38 (omega arith) refl
third_is from at (suc (suc (suc (suc (suc (suc (suc (suc (suc (suc (suc (suc (suc zero))))))))))))) room small =
    of_third from at 9 41 (omega arith) refl
third_is from at (suc (suc (suc (suc (suc (suc (suc (suc (suc (suc (suc (suc (suc (suc zero)))))))))))))) room small =
    of_third from at 12 44 (omega arith) refl
third_is from at (suc (suc (suc (suc (suc (suc (suc (suc (suc (suc (suc (suc (suc (suc (suc zero))))))))))))))) room small =
    of_third from at 15 47 (omega arith) refl
third_is from at (suc (suc (suc (suc (suc (suc (suc (suc (suc (suc (suc (suc (suc (suc (suc (suc j)))))))))))))))) room small =
    absurd (omega (arith, small))

-- ---- the way back
-- of value 0 and value 1
pub of_pair : (values : List ℕ) (at k m : ℕ) → at + 16 ≤ 64 → length values ≡ 192 → k < 16 → at + k ≡ m
    → get_or (chunk at 16 values ++ chunk (64 + at) 16 values) k 0 ≡ get_or values m 0
of_pair values at k m room size small same =
    let long : length (chunk at 16 values) ≡ 16 = length-chunk at 16 values (omega arith) in
    get_or_append_left (chunk at 16 values) (chunk (64 + at) 16 values) 0 k (omega arith) ∙ get_or-chunk at 16 values k 0 small
    ∙ ap (λ t. get_or values t 0) same

pub of_pair_right : (values : List ℕ) (at k j m : ℕ) → at + 16 ≤ 64 → length values ≡ 192 → j < 16 → 16 + j ≡ k → 64 + (at + j) ≡ m
    → get_or (chunk at 16 values ++ chunk (64 + at) 16 values) k 0 ≡ get_or values m 0
of_pair_right values at k j m room size small same position =
    let long : length (chunk at 16 values) ≡ 16 = length-chunk at 16 values (omega arith) in
    let back : k - 16 ≡ j = omega arith in
    let there : 64 + at + j ≡ m = omega arith in
    get_or-append_right (chunk at 16 values) (chunk (64 + at) 16 values) 16 k 0 long (omega arith)
    ∙ ap (λ t. get_or (chunk (64 + at) 16 values) t 0) back
    ∙ get_or-chunk (64 + at) 16 values j 0 small ∙ ap (λ t. get_or values t 0) there

pub of_last : (values : List ℕ) (at j m : ℕ) → j < 16 → 128 + (at + j) ≡ m → get_or (chunk (128 + at) 16 values) j 0 ≡ get_or values m 0
of_last values at j m small same =
    let there : 128 + at + j ≡ m = omega arith in get_or-chunk (128 + at) 16 values j 0 small ∙ ap (λ t. get_or values t 0) there

abbrev pub pair : List ℕ → ℕ → ℕ → ℕ
pair values at k = get_or (chunk at 16 values ++ chunk (64 + at) 16 values) k 0

abbrev pub last : List ℕ → ℕ → ℕ → ℕ
last values at k = get_or (chunk (128 + at) 16 values) k 0

abbrev pub first_bytes : List ℕ → ℕ → List ℕ
first_bytes values at = pair values at 0 ∷ pair values at 16 ∷ last values at 0 ∷ pair values at 1 ∷ pair values at 17 ∷ last values at 1
    ∷ pair values at 2 ∷ pair values at 18 ∷ last values at 2 ∷ pair values at 3 ∷ pair values at 19 ∷ last values at 3 ∷ pair values at 4
    ∷ pair values at 20 ∷ last values at 4 ∷ pair values at 5 ∷ []

pub first_bytes_are : (values : List ℕ) (at t : ℕ) → at + 16 ≤ 64 → length values ≡ 192 → t < 16
    → get_or (first_bytes values at) t 0 ≡ get_or values (64 * ((0 + t) % 3) + (at + (0 + t) / 3)) 0
first_bytes_are values at zero room size small = of_pair values at 0 (0 + (at + 0)) room size (omega arith) (omega arith)
first_bytes_are values at (suc zero) room size small = of_pair_right values at 16 0 (64 + (at + 0)) room size (omega arith) refl refl
first_bytes_are values at (suc (suc zero)) room size small = of_last values at 0 (128 + (at + 0)) (omega arith) refl
first_bytes_are values at (suc (suc (suc zero))) room size small = of_pair values at 1 (0 + (at + 1)) room size (omega arith) (omega arith)
first_bytes_are values at (suc (suc (suc (suc zero)))) room size small =
    of_pair_right values at 17 1 (64 + (at + 1)) room size (omega arith) refl refl
first_bytes_are values at (suc (suc (suc (suc (suc zero))))) room size small = of_last values at 1 (128 + (at + 1)) (omega arith) refl
first_bytes_are values at (suc (suc (suc (suc (suc (suc zero)))))) room size small =
    of_pair values at 2 (0 + (at + 2)) room size (omega arith) (omega arith)
first_bytes_are values at (suc (suc (suc (suc (suc (suc (suc zero))))))) room size small =
    of_pair_right values at 18 2 (64 + (at + 2)) room size (omega arith) refl refl
first_bytes_are values at (suc (suc (suc (suc (suc (suc (suc (suc zero)))))))) room size small =
    of_last values at 2 (128 + (at + 2)) (omega arith) refl
first_bytes_are values at (suc (suc (suc (suc (suc (suc (suc (suc (suc zero))))))))) room size small =
    of_pair values at 3 (0 + (at + 3)) room size (omega arith) (omega arith)
first_bytes_are values at (suc (suc (suc (suc (suc (suc (suc (suc (suc (suc zero)))))))))) room size small =
    of_pair_right values at 19 3 (64 + (at + 3)) room size (omega arith) refl refl
first_bytes_are values at (suc (suc (suc (suc (suc (suc (suc (suc (suc (suc (suc zero))))))))))) room size small =
    of_last values at 3 (128 + (at + 3)) (omega arith) refl
first_bytes_are values at (suc (suc (suc (suc (suc (suc (suc (suc (suc (suc (suc (suc zero)))))))))))) room size small =
    of_pair values at 4 (0 + (at + 4)) room size (omega arith) (omega arith)
first_bytes_are values at (suc (suc (suc (suc (suc (suc (suc (suc (suc (suc (suc (suc (suc zero))))))))))))) room size small =
    of_pair_right values at 20 4 (64 + (at + 4)) room size (omega arith) refl refl
first_bytes_are values at (suc (suc (suc (suc (suc (suc (suc (suc (suc (suc (suc (suc (suc (suc zero)))))))))))))) room size small =
    of_last values at 4 (128 + (at + 4)) (omega arith) refl
first_bytes_are values at (suc (suc (suc (suc (suc (suc (suc (suc (suc (suc (suc (suc (suc (suc (suc zero))))))))))))))) room size small =
    of_pair values at 5 (0 + (at + 5)) room size (omega arith) (omega arith)
first_bytes_are values at (suc (suc (suc (suc (suc (suc (suc (suc (suc (suc (suc (suc (suc (suc (suc (suc t)))))))))))))))) room size small
    = absurd (omega (arith, small))

abbrev pub second_bytes : List ℕ → ℕ → List ℕ
second_bytes values at = pair values at 21 ∷ last values at 5 ∷ pair values at 6 ∷ pair values at 22 ∷ last values at 6 ∷ pair values at 7
    ∷ pair values at 23 ∷ last values at 7 ∷ pair values at 8 ∷ pair values at 24 ∷ last values at 8 ∷ pair values at 9 ∷ pair values at 25
    ∷ last values at 9 ∷ pair values at 10 ∷ pair values at 26 ∷ []

pub second_bytes_are : (values : List ℕ) (at t : ℕ) → at + 16 ≤ 64 → length values ≡ 192 → t < 16
    → get_or (second_bytes values at) t 0 ≡ get_or values (64 * ((16 + t) % 3) + (at + (16 + t) / 3)) 0
second_bytes_are values at zero room size small = of_pair_right values at 21 5 (64 + (at + 5)) room size (omega arith) refl refl
second_bytes_are values at (suc zero) room size small = of_last values at 5 (128 + (at + 5)) (omega arith) refl
second_bytes_are values at (suc (suc zero)) room size small = of_pair values at 6 (0 + (at + 6)) room size (omega arith) (omega arith)
second_bytes_are values at (suc (suc (suc zero))) room size small =
    of_pair_right values at 22 6 (64 + (at + 6)) room size (omega arith) refl refl
second_bytes_are values at (suc (suc (suc (suc zero)))) room size small = of_last values at 6 (128 + (at + 6)) (omega arith) refl
second_bytes_are values at (suc (suc (suc (suc (suc zero))))) room size small =
    of_pair values at 7 (0 + (at + 7)) room size (omega arith) (omega arith)
second_bytes_are values at (suc (suc (suc (suc (suc (suc zero)))))) room size small =
    of_pair_right values at 23 7 (64 + (at + 7)) room size (omega arith) refl refl
second_bytes_are values at (suc (suc (suc (suc (suc (suc (suc zero))))))) room size small =
    of_last values at 7 (128 + (at + 7)) (omega arith) refl
second_bytes_are values at (suc (suc (suc (suc (suc (suc (suc (suc zero)))))))) room size small =
    of_pair values at 8 (0 + (at + 8)) room size (omega arith) (omega arith)
second_bytes_are values at (suc (suc (suc (suc (suc (suc (suc (suc (suc zero))))))))) room size small =
    of_pair_right values at 24 8 (64 + (at + 8)) room size (omega arith) refl refl
second_bytes_are values at (suc (suc (suc (suc (suc (suc (suc (suc (suc (suc zero)))))))))) room size small =
    of_last values at 8 (128 + (at + 8)) (omega arith) refl
second_bytes_are values at (suc (suc (suc (suc (suc (suc (suc (suc (suc (suc (suc zero))))))))))) room size small =
    of_pair values at 9 (0 + (at + 9)) room size (omega arith) (omega arith)
second_bytes_are values at (suc (suc (suc (suc (suc (suc (suc (suc (suc (suc (suc (suc zero)))))))))))) room size small =
    of_pair_right values at 25 9 (64 + (at + 9)) room size (omega arith) refl refl
second_bytes_are values at (suc (suc (suc (suc (suc (suc (suc (suc (suc (suc (suc (suc (suc zero))))))))))))) room size small =
    of_last values at 9 (128 + (at + 9)) (omega arith) refl
second_bytes_are values at (suc (suc (suc (suc (suc (suc (suc (suc (suc (suc (suc (suc (suc (suc zero)))))))))))))) room size small =
    of_pair values at 10 (0 + (at + 10)) room size (omega arith) (omega arith)
second_bytes_are values at (suc (suc (suc (suc (suc (suc (suc (suc (suc (suc (suc (suc (suc (suc (suc zero))))))))))))))) room size small =
    of_pair_right values at 26 10 (64 + (at + 10)) room size (omega arith) refl refl
second_bytes_are values at (suc (suc (suc (suc (suc (suc (suc (suc (suc (suc (suc (suc (suc (suc (suc (suc t)))))))))))))))) room size small
    = absurd (omega (arith, small))

abbrev pub third_bytes : List ℕ → ℕ → List ℕ
third_bytes values at = last values at 10 ∷ pair values at 11 ∷ pair values at 27 ∷ last values at 11 ∷ pair values at 12
    ∷ pair values at 28 ∷ last values at 12 ∷ pair values at 13 ∷ pair values at 29 ∷ last values at 13 ∷ pair values at 14
    ∷ pair values at 30 ∷ last values at 14 ∷ pair values at 15 ∷ pair values at 31 ∷ last values at 15 ∷ []

pub third_bytes_are : (values : List ℕ) (at t : ℕ) → at + 16 ≤ 64 → length values ≡ 192 → t < 16
    → get_or (third_bytes values at) t 0 ≡ get_or values (64 * ((32 + t) % 3) + (at + (32 + t) / 3)) 0
third_bytes_are values at zero room size small = of_last values at 10 (128 + (at + 10)) (omega arith) refl
third_bytes_are values at (suc zero) room size small = of_pair values at 11 (0 + (at + 11)) room size (omega arith) (omega arith)
third_bytes_are values at (suc (suc zero)) room size small =
    of_pair_right values at 27 11 (64 + (at + 11)) room size (omega arith) refl refl
third_bytes_are values at (suc (suc (suc zero))) room size small = of_last values at 11 (128 + (at + 11)) (omega arith) refl
third_bytes_are values at (suc (suc (suc (suc zero)))) room size small =
    of_pair values at 12 (0 + (at + 12)) room size (omega arith) (omega arith)
third_bytes_are values at (suc (suc (suc (suc (suc zero))))) room size small =
    of_pair_right values at 28 12 (64 + (at + 12)) room size (omega arith) refl refl
third_bytes_are values at (suc (suc (suc (suc (suc (suc zero)))))) room size small =
    of_last values at 12 (128 + (at + 12)) (omega arith) refl
third_bytes_are values at (suc (suc (suc (suc (suc (suc (suc zero))))))) room size small =
    of_pair values at 13 (0 + (at + 13)) room size (omega arith) (omega arith)
third_bytes_are values at (suc (suc (suc (suc (suc (suc (suc (suc zero)))))))) room size small =
    of_pair_right values at 29 13 (64 + (at + 13)) room size (omega arith) refl refl
third_bytes_are values at (suc (suc (suc (suc (suc (suc (suc (suc (suc zero))))))))) room size small =
    of_last values at 13 (128 + (at + 13)) (omega arith) refl
third_bytes_are values at (suc (suc (suc (suc (suc (suc (suc (suc (suc (suc zero)))))))))) room size small =
    of_pair values at 14 (0 + (at + 14)) room size (omega arith) (omega arith)
third_bytes_are values at (suc (suc (suc (suc (suc (suc (suc (suc (suc (suc (suc zero))))))))))) room size small =
    of_pair_right values at 30 14 (64 + (at + 14)) room size (omega arith) refl refl
third_bytes_are values at (suc (suc (suc (suc (suc (suc (suc (suc (suc (suc (suc (suc zero)))))))))))) room size small =
    of_last values at 14 (128 + (at + 14)) (omega arith) refl
third_bytes_are values at (suc (suc (suc (suc (suc (suc (suc (suc (suc (suc (suc (suc (suc zero))))))))))))) room size small =
    of_pair values at 15 (0 + (at + 15)) room size (omega arith) (omega arith)
third_bytes_are values at (suc (suc (suc (suc (suc (suc (suc (suc (suc (suc (suc (suc (suc (suc zero)))))))))))))) room size small =
    of_pair_right values at 31 15 (64 + (at + 15)) room size (omega arith) refl refl
third_bytes_are values at (suc (suc (suc (suc (suc (suc (suc (suc (suc (suc (suc (suc (suc (suc (suc zero))))))))))))))) room size small =
    of_last values at 15 (128 + (at + 15)) (omega arith) refl
third_bytes_are values at (suc (suc (suc (suc (suc (suc (suc (suc (suc (suc (suc (suc (suc (suc (suc (suc t)))))))))))))))) room size small
    = absurd (omega (arith, small))
