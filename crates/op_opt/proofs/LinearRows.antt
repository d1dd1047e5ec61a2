-- Rows of a linear map that give a value, or a multiple of it.
use Rattle.std.proofs.Common.{◌≡◌, ℕ, zero, suc, ◌<◌, Bool, true, ◌&&◌, List, refl, sym, ◌∙◌, arith}
use Rattle.std.proofs.lemmas.Bool.{and_parts}
use Rattle.frac_math.specs.Fraction.{ℚ, nat, equal_ℚ, ◌*ℚ◌}
use Rattle.frac_math.proofs.FractionRing.{equal_is, mul-one}
use Rattle.op_list.specs.declared.values.Values.{Values}
use Rattle.op_list.specs.Values.{fraction, fraction_in}
use Rattle.op_list.specs.Apply.{row_of, row_value}
use Rattle.op_list.specs.Identity.{identity_coefficient, is_identity_row}
use Rattle.op_opt.specs.JoinMaps.{diagonal}
use Rattle.op_opt.specs.ExpandBytes.{expanding_coefficient, is_expanding_row}
use Rattle.op_opt.proofs.JoiningMaps.{diagonal_value}

-- a row has these coefficients
are_coefficients : List ℚ → (ℕ → ℚ) → Bool
are_coefficients row c =
    equal_ℚ (fraction_in row 0) (c 0) && equal_ℚ (fraction_in row 1) (c 1) && equal_ℚ (fraction_in row 2) (c 2)
    && equal_ℚ (fraction_in row 3) (c 3)
    && equal_ℚ (fraction_in row 4) (c 4)

by_coefficients : (row : List ℚ) (c : ℕ → ℚ) (other : List ℚ) (v : Values) → are_coefficients row c ≡ true
    → c 0 ≡ fraction_in other 0 → c 1 ≡ fraction_in other 1 → c 2 ≡ fraction_in other 2 → c 3 ≡ fraction_in other 3
    → c 4 ≡ fraction_in other 4
    → row_value other v ≡ row_value row v
unfolding are_coefficients
by_coefficients row c other v h c0 c1 c2 c3 c4 =
    let p = and_parts _ _ h in let q = and_parts _ _ p.0 in let r = and_parts _ _ q.0 in let s = and_parts _ _ r.0 in
    let e0 = equal_is (fraction_in row 0) (c 0) s.0 in let e1 = equal_is (fraction_in row 1) (c 1) s.1 in
    let e2 = equal_is (fraction_in row 2) (c 2) r.1 in let e3 = equal_is (fraction_in row 3) (c 3) q.1 in
    let e4 = equal_is (fraction_in row 4) (c 4) p.1 in cc

identity_diagonal : (row : List ℚ) (i : ℕ) (v : Values) → i < 4 → is_identity_row i row ≡ true
    → row_value (row_of (diagonal (nat 1)) i) v ≡ row_value row v
unfolding is_identity_row are_coefficients
identity_diagonal row zero v below h = by_coefficients row (identity_coefficient 0) (row_of (diagonal
    (nat 1)) 0) v h refl refl refl refl refl
identity_diagonal row (suc zero) v below h = by_coefficients row (identity_coefficient 1) (row_of (diagonal
    (nat 1)) 1) v h refl refl refl refl refl
identity_diagonal row (suc (suc zero)) v below h = by_coefficients row (identity_coefficient 2) (row_of (diagonal
    (nat 1)) 2) v h refl refl refl refl refl
identity_diagonal row (suc (suc (suc zero))) v below h = by_coefficients row (identity_coefficient 3) (row_of (diagonal
    (nat 1)) 3) v h refl refl refl refl refl
identity_diagonal row (suc (suc (suc (suc i)))) v below h = absurd (omega arith)

pub identity_value : (row : List ℚ) (i : ℕ) (v : Values) → i < 4 → is_identity_row i row ≡ true → fraction v i ≡ row_value row v
identity_value row i v below h = sym (mul-one (fraction v i)) ∙ diagonal_value (nat 1) v i below ∙ identity_diagonal row i v below h

expanding_diagonal : (row : List ℚ) (i : ℕ) (v : Values) → i < 4 → is_expanding_row i row ≡ true
    → row_value (row_of (diagonal (nat 257)) i) v ≡ row_value row v
unfolding is_expanding_row are_coefficients
expanding_diagonal row zero v below h = by_coefficients row (expanding_coefficient 0) (row_of (diagonal
    (nat 257)) 0) v h refl refl refl refl refl
expanding_diagonal row (suc zero) v below h = by_coefficients row (expanding_coefficient 1) (row_of (diagonal
    (nat 257)) 1) v h refl refl refl refl refl
expanding_diagonal row (suc (suc zero)) v below h = by_coefficients row (expanding_coefficient 2) (row_of (diagonal
    (nat 257)) 2) v h refl refl refl refl refl
expanding_diagonal row (suc (suc (suc zero))) v below h = by_coefficients row (expanding_coefficient 3) (row_of (diagonal
    (nat 257)) 3) v h refl refl refl refl refl
expanding_diagonal row (suc (suc (suc (suc i)))) v below h = absurd (omega arith)

pub expanding_value : (row : List ℚ) (i : ℕ) (v : Values) → i < 4 → is_expanding_row i row ≡ true
    → fraction v i *ℚ nat 257 ≡ row_value row v
expanding_value row i v below h = diagonal_value (nat 257) v i below ∙ expanding_diagonal row i v below h
