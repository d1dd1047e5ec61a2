-- Rows of coefficients that undo one another.
use Rattle.std.proofs.Common.{◌≡◌, List, [], ◌∷◌, pos, refl, sym, ◌∙◌, ap}
use Rattle.frac_math.specs.Fraction.{ℚ, nat, ◌+ℚ◌, ◌*ℚ◌}
use Rattle.frac_math.proofs.Ring.{var, num, ◌⊕◌, ◌⊗◌, ring}
use Rattle.frac_math.proofs.FractionRing.{fractions}
use Rattle.colour_matrix.specs.Values.{Values, row_at, row_sum, by_rows, column, product, identity}

pub same_values : (e f : Values) → e.first ≡ f.first → e.second ≡ f.second → e.third ≡ f.third → e.fourth ≡ f.fourth → e ≡ f
same_values e f p q r s = λ i. record { first = p i; second = q i; third = r i; fourth = s i }

only_first : (x y z : ℚ) → x *ℚ nat 1 +ℚ y *ℚ nat 0 +ℚ z *ℚ nat 0 ≡ x
only_first x y z = ring fractions (x ∷ y ∷ z ∷ []) (var 0 ⊗ num (pos 1) ⊕ var 1 ⊗ num (pos 0) ⊕ var 2 ⊗ num (pos 0)) (var 0) refl

only_second : (x y z : ℚ) → x *ℚ nat 0 +ℚ y *ℚ nat 1 +ℚ z *ℚ nat 0 ≡ y
only_second x y z = ring fractions (x ∷ y ∷ z ∷ []) (var 0 ⊗ num (pos 0) ⊕ var 1 ⊗ num (pos 1) ⊕ var 2 ⊗ num (pos 0)) (var 1) refl

only_third : (x y z : ℚ) → x *ℚ nat 0 +ℚ y *ℚ nat 0 +ℚ z *ℚ nat 1 ≡ z
only_third x y z = ring fractions (x ∷ y ∷ z ∷ []) (var 0 ⊗ num (pos 0) ⊕ var 1 ⊗ num (pos 0) ⊕ var 2 ⊗ num (pos 1)) (var 2) refl

-- the values of which one is 1 and the others are 0
abbrev one_first : Values
one_first = record { first = nat 1; second = nat 0; third = nat 0; fourth = nat 0 }

abbrev one_second : Values
one_second = record { first = nat 0; second = nat 1; third = nat 0; fourth = nat 0 }

abbrev one_third : Values
one_third = record { first = nat 0; second = nat 0; third = nat 1; fourth = nat 0 }

-- rows over such values give one of their columns
first_column : (rows : List (List ℚ)) → by_rows rows one_first ≡ column rows 0
first_column rows = same_values _ _ (only_first _ _ _) (only_first _ _ _) (only_first _ _ _) refl

second_column : (rows : List (List ℚ)) → by_rows rows one_second ≡ column rows 1
second_column rows = same_values _ _ (only_second _ _ _) (only_second _ _ _) (only_second _ _ _) refl

third_column : (rows : List (List ℚ)) → by_rows rows one_third ≡ column rows 2
third_column rows = same_values _ _ (only_third _ _ _) (only_third _ _ _) (only_third _ _ _) refl

rows_product : (r s t : List ℚ) (inner : List (List ℚ)) → ((e : Values) → by_rows (r ∷ s ∷ t ∷ []) (by_rows inner e) ≡ e)
    → product (r ∷ s ∷ t ∷ []) inner ≡ identity
rows_product r s t inner back =
    let first = sym (first_column inner) in
    let second = sym (second_column inner) in
    let third = sym (third_column inner) in
    let r0 : row_sum r (column inner 0) ≡ nat 1 = ap (row_sum r) first ∙ ap (λ (v : Values). v.first) (back one_first) in
    let r1 : row_sum r (column inner 1) ≡ nat 0 = ap (row_sum r) second ∙ ap (λ (v : Values). v.first) (back one_second) in
    let r2 : row_sum r (column inner 2) ≡ nat 0 = ap (row_sum r) third ∙ ap (λ (v : Values). v.first) (back one_third) in
    let s0 : row_sum s (column inner 0) ≡ nat 0 = ap (row_sum s) first ∙ ap (λ (v : Values). v.second) (back one_first) in
    let s1 : row_sum s (column inner 1) ≡ nat 1 = ap (row_sum s) second ∙ ap (λ (v : Values). v.second) (back one_second) in
    let s2 : row_sum s (column inner 2) ≡ nat 0 = ap (row_sum s) third ∙ ap (λ (v : Values). v.second) (back one_third) in
    let t0 : row_sum t (column inner 0) ≡ nat 0 = ap (row_sum t) first ∙ ap (λ (v : Values). v.third) (back one_first) in
    let t1 : row_sum t (column inner 1) ≡ nat 0 = ap (row_sum t) second ∙ ap (λ (v : Values). v.third) (back one_second) in
    let t2 : row_sum t (column inner 2) ≡ nat 1 = ap (row_sum t) third ∙ ap (λ (v : Values). v.third) (back one_third) in
    λ i. (r0 i ∷ r1 i ∷ r2 i ∷ []) ∷ (s0 i ∷ s1 i ∷ s2 i ∷ []) ∷ (t0 i ∷ t1 i ∷ t2 i ∷ []) ∷ []

-- three rows that undo others on all values have the identity as their product with them
pub product_is : (outer inner : List (List ℚ)) → outer ≡ row_at outer 0 ∷ row_at outer 1 ∷ row_at outer 2 ∷ []
    → ((e : Values) → by_rows outer (by_rows inner e) ≡ e) → product outer inner ≡ identity
product_is outer inner three back = ap (λ rows. product rows inner) three
    ∙ rows_product (row_at outer 0) (row_at outer 1) (row_at outer 2) inner back
