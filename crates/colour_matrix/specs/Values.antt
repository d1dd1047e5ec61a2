-- The values of a pixel, and rows of coefficients over them.
use Rattle.std.specs.Prelude.{ℕ, zero, suc, List, [], ◌∷◌, map, slice_index_or}
use Rattle.frac_math.specs.Fraction.{ℚ, nat, ◌+ℚ◌, ◌*ℚ◌}

-- red, green, blue and alpha, or luma, the chroma of blue, the chroma of red and alpha
pub record Values : Type 0 where
  pub first : ℚ
  pub second : ℚ
  pub third : ℚ
  pub fourth : ℚ

-- the value of component j
abbrev pub value_at : Values → ℕ → ℚ
value_at v zero = v.first
value_at v (suc zero) = v.second
value_at v (suc (suc zero)) = v.third
value_at v (suc (suc (suc j))) = v.fourth

-- coefficient j of a row
abbrev pub coefficient : List ℚ → ℕ → ℚ
coefficient row j = slice_index_or row j (nat 0)

-- row i of some rows
abbrev pub row_at : List (List ℚ) → ℕ → List ℚ
row_at rows i = slice_index_or rows i []

-- a row over the first three values: the sum of the products
abbrev pub row_sum : List ℚ → Values → ℚ
row_sum row v = coefficient row 0 *ℚ v.first +ℚ coefficient row 1 *ℚ v.second +ℚ coefficient row 2 *ℚ v.third

-- three rows give the first three values, and alpha stays
abbrev pub by_rows : List (List ℚ) → Values → Values
by_rows rows v = record {
  first = row_sum (row_at rows 0) v;
  second = row_sum (row_at rows 1) v;
  third = row_sum (row_at rows 2) v;
  fourth = v.fourth;
}

-- coefficients j of three rows, as values
abbrev pub column : List (List ℚ) → ℕ → Values
column rows j = record {
  first = coefficient (row_at rows 0) j;
  second = coefficient (row_at rows 1) j;
  third = coefficient (row_at rows 2) j;
  fourth = nat 0;
}

-- the rows that do what `inner` and then `outer` do: each row of `outer` over each column of `inner`
abbrev pub product : List (List ℚ) → List (List ℚ) → List (List ℚ)
product outer inner = map (λ row. row_sum row (column inner 0) ∷ row_sum row (column inner 1) ∷ row_sum row (column inner 2) ∷ []) outer

-- the rows that change nothing
abbrev pub identity : List (List ℚ)
identity =
    (nat 1 ∷ nat 0 ∷ nat 0 ∷ []) ∷
    (nat 0 ∷ nat 1 ∷ nat 0 ∷ []) ∷
    (nat 0 ∷ nat 0 ∷ nat 1 ∷ []) ∷ []
