-- What it takes for values to lie within ranges.
use Rattle.std.proofs.Common.{◌≡◌, ℕ, ◌-◌, ◌^◌, ◌<◌, ◌≤◌, Bool, true, false, if◌then◌else◌, List, pos, eqb-true, subst, refl, sym}
use Rattle.std.proofs.Common.{arith}
use Rattle.std.specs.Prelude.{Option, Some, None, IfSome}
use Rattle.std.specs.Option.{option_map, option_and_then}
use Rattle.std.proofs.lemmas.Int.{ints}
use Rattle.frac_math.specs.Fraction.{ℚ, nat, whole, ◌+ℚ◌, ◌*ℚ◌, ◌≤ℚ◌}
use Rattle.frac_math.specs.Checked.{checked_sum, checked_product}
use Rattle.frac_math.proofs.FractionOrder.{whole_le, le_whole}
use Rattle.frac_math.proofs.FractionRing.{same_fields}
use Rattle.frac_math.proofs.CheckedCalls.{checked_sum_value, checked_product_value}
use Rattle.op_list.specs.declared.values.Values.{Values}
use Rattle.op_list.specs.declared.values.Values.TheVariants.{Numbers, Fractions}
use Rattle.op_list.specs.Values.{four, number, fraction, are_fractions}
use Rattle.op_range.specs.declared.range.ValueRange.{ValueRange}
use Rattle.op_range.specs.Ranges.{from_to, only_zero, full, range_in, is_whole_number}
use Rattle.op_range.specs.Within.{value_of, IsWithin, AreWithin}
use Rattle.op_list.proofs.Four.{get_or-four}

-- ---- four values
pub numbers_within : (f : ℕ → ValueRange) (g : ℕ → ℕ) → ((i : ℕ) → i < 4 → IsWithin (f i) (nat (g i)))
    → AreWithin (four f) (Numbers (four g))
numbers_within f g each = record {
  each = λ i below.
      subst (λ (r : ValueRange). IsWithin r (value_of (Numbers (four g)) i)) (sym (get_or-four f i only_zero below))
      (subst (λ (n : ℕ). IsWithin (f i) (nat n)) (sym (get_or-four g i 0 below)) (each i below));
}

pub fractions_within : (f : ℕ → ValueRange) (g : ℕ → ℚ) → ((i : ℕ) → i < 4 → IsWithin (f i) (g i))
    → AreWithin (four f) (Fractions (four g))
fractions_within f g each = record {
  each = λ i below.
      subst (λ (r : ValueRange). IsWithin r (value_of (Fractions (four g)) i)) (sym (get_or-four f i only_zero below))
      (subst (λ (x : ℚ). IsWithin (f i) x) (sym (get_or-four g i (nat 0) below)) (each i below));
}

pub number_at : (ranges : List ValueRange) (v : Values) (i : ℕ) → are_fractions v ≡ false → i < 4 → AreWithin ranges v
    → IsWithin (range_in ranges i) (nat (number v i))
number_at ranges (Numbers v) i kind below h = h.each i below
number_at ranges (Fractions v) i kind below h = absurd (cc)

pub fraction_at : (ranges : List ValueRange) (v : Values) (i : ℕ) → are_fractions v ≡ true → i < 4 → AreWithin ranges v
    → IsWithin (range_in ranges i) (fraction v i)
fraction_at ranges (Fractions v) i kind below h = h.each i below
fraction_at ranges (Numbers v) i kind below h = absurd (cc)

-- ---- whole numbers
pub nat_le_ℚ : (m n : ℕ) → m ≤ n → nat m ≤ℚ nat n
nat_le_ℚ m n h = whole_le (pos m) (pos n) (omega (arith, ints, h))

pub le_nat : (m n : ℕ) → nat m ≤ℚ nat n → m ≤ n
le_nat m n h = omega (arith, ints, le_whole (pos m) (pos n) h)

pub between : (m n x : ℕ) → m ≤ x → x ≤ n → IsWithin (from_to m n) (nat x)
between m n x low high = record { above = nat_le_ℚ m x low; below = nat_le_ℚ x n high; integral = λ h. refl }

pub below_full : (count x : ℕ) → x < 2 ^ count → IsWithin (full count) (nat x)
below_full count x h = between 0 (2 ^ count - 1) x (omega arith) (omega arith)

pub zero_only : IsWithin only_zero (nat 0)
zero_only = between 0 0 0 (omega arith) (omega arith)

-- a fraction that is a whole number
pub whole_is : (x : ℚ) → is_whole_number x ≡ true → x ≡ whole x.numerator
whole_is x h = same_fields x (whole x.numerator) refl (eqb-true x.denominator 1 h)

-- ---- bounds that are there
pub if_and_then : (f : ℚ → Option ℚ) (o : Option ℚ) (P Q : ℚ → Type 0) → IfSome o P → ((x : ℚ) → P x → IfSome (f x) Q)
    → IfSome (option_and_then f o) Q
if_and_then f None P Q h make = tt
if_and_then f (Some x) P Q h make = make x h

pub if_map : (f : ℚ → ℚ) (o : Option ℚ) (P Q : ℚ → Type 0) → IfSome o P → ((x : ℚ) → P x → Q (f x)) → IfSome (option_map f o) Q
if_map f None P Q h make = tt
if_map f (Some x) P Q h make = make x h

if_some_by : {A : Type 0} (P : A → Type 0) (o : Option A) → ((x : A) → o ≡ Some x → P x) → IfSome o P
if_some_by P None h = tt
if_some_by P (Some x) h = h x refl

pub if_sum : (P : ℚ → Type 0) (x y : ℚ) → P (x +ℚ y) → IfSome (checked_sum x y) P
if_sum P x y h = if_some_by P (checked_sum x y) (λ z is. subst P (sym (checked_sum_value x y z is)) h)

pub if_product : (P : ℚ → Type 0) (x y : ℚ) → P (x *ℚ y) → IfSome (checked_product x y) P
if_product P x y h = if_some_by P (checked_product x y) (λ z is. subst P (sym (checked_product_value x y z is)) h)

-- a test that chooses a range
pub by_test : (P : ValueRange → Type 0) (t : Bool) (a b : ValueRange) → (t ≡ true → P a) → (t ≡ false → P b) → P (if t then a else b)
by_test P true a b h k = h refl
by_test P false a b h k = k refl
