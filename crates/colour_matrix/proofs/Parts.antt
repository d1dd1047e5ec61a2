-- The parts of a matrix as fractions: their differences, and that what the equations divide by is not 0.
use Rattle.std.proofs.Common.{◌≡◌, ◌-◌, ◌*◌, ◌<◌, ◌≤◌, refl, ◌∙◌, ap, arith}
use native.Mathlib.Nat.{mul-pos}
use Rattle.frac_math.specs.Fraction.{nat, ◌*ℚ◌, ◌-ℚ◌, inverse}
use Rattle.frac_math.proofs.Naturals.{nat-sub, nat-mul, inverse_of}
use Rattle.colour_matrix.specs.Matrix.{IsMatrix}
use Rattle.colour_matrix.specs.Colour.{green_of}
use Rattle.colour_matrix.specs.declared.matrix.Matrix.{Matrix}

-- differences of the parts, which are not below 0
pub record Differences (m : Matrix) : Type 0 where
  pub red : nat m.q -ℚ nat m.r ≡ nat (m.q - m.r)
  pub blue : nat m.q -ℚ nat m.b ≡ nat (m.q - m.b)
  pub green : green_of m ≡ nat (m.q - m.r - m.b)
  pub parts : 0 < m.q
  pub twice_red : 0 < 2 * (m.q - m.r)
  pub twice_blue : 0 < 2 * (m.q - m.b)
  pub times_green : 0 < m.q * (m.q - m.r - m.b)

pub differences : (m : Matrix) → IsMatrix m → Differences m
differences m h =
    let r_in : m.r ≤ m.q = omega arith in
    let b_in : m.b ≤ m.q = omega arith in
    let rb_in : m.b ≤ m.q - m.r = omega arith in
    let some_q : 0 < m.q = omega arith in
    let some_g : 0 < m.q - m.r - m.b = omega arith in
    record {
      red = nat-sub m.q m.r r_in;
      blue = nat-sub m.q m.b b_in;
      green = ap (λ x. x -ℚ nat m.b) (nat-sub m.q m.r r_in) ∙ nat-sub (m.q - m.r) m.b rb_in;
      parts = some_q;
      twice_red = omega arith;
      twice_blue = omega arith;
      times_green = mul-pos some_q some_g;
    }

-- what is divided by is not 0
pub record Inverses (m : Matrix) : Type 0 where
  pub of_q : nat m.q *ℚ inverse (nat m.q) ≡ nat 1
  pub of_qg : nat m.q *ℚ green_of m *ℚ inverse (nat m.q *ℚ green_of m) ≡ nat 1
  pub of_r : nat 2 *ℚ (nat m.q -ℚ nat m.r) *ℚ inverse (nat 2 *ℚ (nat m.q -ℚ nat m.r)) ≡ nat 1
  pub of_b : nat 2 *ℚ (nat m.q -ℚ nat m.b) *ℚ inverse (nat 2 *ℚ (nat m.q -ℚ nat m.b)) ≡ nat 1

pub inverses : (m : Matrix) → IsMatrix m → Inverses m
inverses m h =
    let d = differences m h in
    record {
      of_q = inverse_of _ m.q refl d.parts;
      of_qg = inverse_of _ (m.q * (m.q - m.r - m.b)) (nat-mul (nat m.q) (green_of m) m.q (m.q - m.r - m.b) refl d.green) d.times_green;
      of_r = inverse_of _ (2 * (m.q - m.r)) (nat-mul (nat 2) (nat m.q -ℚ nat m.r) 2 (m.q - m.r) refl d.red) d.twice_red;
      of_b = inverse_of _ (2 * (m.q - m.b)) (nat-mul (nat 2) (nat m.q -ℚ nat m.b) 2 (m.q - m.b) refl d.blue) d.twice_blue;
    }
