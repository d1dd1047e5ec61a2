-- What the checked calls answer, as computed and as stated.
use Rattle.std.proofs.Common.{ap, ◌≡◌, ◌^◌, Bool, true, false, not, ◌&&◌, if◌then◌else◌, ltb-true, lt-ltb, ℤ, pos, negsuc, ◌+ℤ◌, ◌*ℤ◌, refl}
use Rattle.std.proofs.Common.{arith}
use Rattle.std.proofs.lemmas.Int.{ints}
use Rattle.std.proofs.lemmas.Bool.Decides.{Decides-int_eq}
use Rattle.std.specs.Prelude.{Option, Some, None}
use Rattle.std.specs.Option.{SomeIff}
use Rattle.std.specs.Ordering.{int_eq}
use Rattle.std.specs.Int.{int_signum}
use Rattle.frac_math.specs.Fraction.{ℚ, ratio, ◌+ℚ◌, ◌*ℚ◌, ◌/ℚ◌}
use Rattle.frac_math.specs.Checked.{Fits, is_i128, RatioFits, SumFits, ProductFits, QuotientFits, checked_ratio, checked_sum}
use Rattle.frac_math.specs.Checked.{checked_product, checked_quotient}
use Rattle.frac_math.proofs.FractionRing.{and_left, and_right}

-- the test of a range, and the range
fits_from_test : (z : ℤ) → is_i128 z ≡ true → Fits z
fits_from_test (pos n) h = omega (arith, ints, ltb-true n (2 ^ 127) h)
fits_from_test (negsuc n) h = omega (arith, ints, ltb-true n (2 ^ 127) h)

test_from_fits : (z : ℤ) → Fits z → is_i128 z ≡ true
test_from_fits (pos n) h = lt-ltb n (2 ^ 127) (omega (arith, ints, h))
test_from_fits (negsuc n) h = lt-ltb n (2 ^ 127) (omega (arith, ints, h))

-- the test that a divisor is not 0
not_zero_from_test : (z : ℤ) → not (int_eq z (pos 0)) ≡ true → z ≡ pos 0 → ⊥
not_zero_from_test z h e = let t = (Decides-int_eq z (pos 0)).1 e in absurd (cc)

test_from_not_zero : (z : ℤ) → (z ≡ pos 0 → ⊥) → not (int_eq z (pos 0)) ≡ true
test_from_not_zero z h = (elim (int_eq z (pos 0)) as
    (λ b. int_eq z (pos 0) ≡ b → not b ≡ true) [ true ↦ λ e. absurd (h ((Decides-int_eq z (pos 0)).0 e)) | false ↦ λ e. refl ]) refl

both_true : (a b : Bool) → a ≡ true → b ≡ true → (a && b) ≡ true
both_true a b p q = rw (p, q)

-- a choice by a test, where the test says the fact
some_by_test : {A : Type 0} (P : Type 0) (x : A) (t : Bool) → (t ≡ true → P) → (P → t ≡ true) → SomeIff (if t then Some x else None) P x
some_by_test P x true f g = (f refl, refl)
some_by_test P x false f g = λ p. let e = g p in absurd (cc)

-- two answers that are right under one fact are the same
pub same_answer : {A : Type 0} (a b : Option A) (P : Type 0) (x : A) → SomeIff a P x → SomeIff b P x → a ≡ b
same_answer None None P x p q = refl
same_answer None (Some b) P x p q = absurd (p q.0)
same_answer (Some a) None P x p q = absurd (q p.0)
same_answer (Some a) (Some b) P x p q = let e = p.1 in let f = q.1 in cc

-- what an answer gives, and where there is one
pub some_where : {A : Type 0} (a : Option A) (P : Type 0) (x : A) → SomeIff a P x → P → a ≡ Some x
some_where None P x h p = absurd (h p)
some_where (Some y) P x h p = ap Some h.1

pub value_where : {A : Type 0} (a : Option A) (P : Type 0) (x y : A) → SomeIff a P x → a ≡ Some y → P × (y ≡ x)
value_where None P x y h e = absurd (cc)
value_where (Some z) P x y h e = (h.0, (let v = h.1 in cc))

pub checked_ratio_exact : (n d : ℤ) → SomeIff (checked_ratio n d) (RatioFits n d) (ratio n d)
unfolding checked_ratio
checked_ratio_exact n d =
    let a = not (int_eq d (pos 0)) in let b = is_i128 (ratio n d).numerator in let c = is_i128 (pos (ratio n d).denominator) in
    some_by_test (RatioFits n d) (ratio n d) (a && b && c)
    (λ t. let u = and_left (a && b) c t in
    record {
      divisor = not_zero_from_test d (and_left a b u);
      numerator = fits_from_test _ (and_right a b u);
      denominator =
          fits_from_test _ (and_right (a && b) c t);
    })
    (λ p. both_true (a && b) c (both_true a b (test_from_not_zero d p.divisor) (test_from_fits _ p.numerator))
    (test_from_fits _ p.denominator))

pub checked_sum_exact : (x y : ℚ) → SomeIff (checked_sum x y) (SumFits x y) (x +ℚ y)
unfolding checked_sum
checked_sum_exact x y =
    let left = x.numerator *ℤ pos y.denominator in let right = y.numerator *ℤ pos x.denominator in
    let a = is_i128 left in let b = is_i128 right in let c = is_i128 (left +ℤ right) in let d =
    is_i128 (pos x.denominator *ℤ pos y.denominator) in
    some_by_test (SumFits x y) (x +ℚ y) (a && b && c && d)
    (λ t. let u = and_left (a && b && c) d t in let v = and_left (a && b) c u in
    record {
      left = fits_from_test _ (and_left a b v);
      right = fits_from_test _ (and_right a b v);
      sum =
          fits_from_test _ (and_right (a && b) c u);
      denominator = fits_from_test _ (and_right (a && b && c) d t);
    })
    (λ p. both_true (a && b && c) d
    (both_true (a && b) c (both_true a b (test_from_fits _ p.left) (test_from_fits _ p.right)) (test_from_fits _ p.sum))
    (test_from_fits _ p.denominator))

pub checked_product_exact : (x y : ℚ) → SomeIff (checked_product x y) (ProductFits x y) (x *ℚ y)
unfolding checked_product
checked_product_exact x y =
    let a = is_i128 (x.numerator *ℤ y.numerator) in let b = is_i128 (pos x.denominator *ℤ pos y.denominator) in
    some_by_test (ProductFits x y) (x *ℚ y) (a && b)
    (λ t. record { numerator = fits_from_test _ (and_left a b t); denominator = fits_from_test _ (and_right a b t) })
    (λ p. both_true a b (test_from_fits _ p.numerator) (test_from_fits _ p.denominator))

pub checked_quotient_exact : (x y : ℚ) → SomeIff (checked_quotient x y) (QuotientFits x y) (x /ℚ y)
unfolding checked_quotient
checked_quotient_exact x y =
    let sign = int_signum y.numerator in
    let a = not (int_eq y.numerator (pos 0)) in
    let b = is_i128 (x.numerator *ℤ pos y.denominator *ℤ sign) in
    let c = is_i128 (pos x.denominator *ℤ y.numerator *ℤ sign) in
    some_by_test (QuotientFits x y) (x /ℚ y) (a && b && c)
    (λ t. let u = and_left (a && b) c t in
    record {
      divisor = not_zero_from_test y.numerator (and_left a b u);
      numerator = fits_from_test _ (and_right a b u);
      denominator =
          fits_from_test _ (and_right (a && b) c t);
    })
    (λ p. both_true (a && b) c (both_true a b (test_from_not_zero y.numerator p.divisor) (test_from_fits _ p.numerator))
    (test_from_fits _ p.denominator))

-- ---- the answers where the numbers fit, and the values of the answers
pub checked_sum_some : (x y : ℚ) → SumFits x y → checked_sum x y ≡ Some (x +ℚ y)
checked_sum_some x y f = some_where (checked_sum x y) (SumFits x y) (x +ℚ y) (checked_sum_exact x y) f

pub checked_sum_value : (x y z : ℚ) → checked_sum x y ≡ Some z → z ≡ x +ℚ y
checked_sum_value x y z e = (value_where (checked_sum x y) (SumFits x y) (x +ℚ y) z (checked_sum_exact x y) e).1

pub checked_product_some : (x y : ℚ) → ProductFits x y → checked_product x y ≡ Some (x *ℚ y)
checked_product_some x y f = some_where (checked_product x y) (ProductFits x y) (x *ℚ y) (checked_product_exact x y) f

pub checked_product_value : (x y z : ℚ) → checked_product x y ≡ Some z → z ≡ x *ℚ y
checked_product_value x y z e = (value_where (checked_product x y) (ProductFits x y) (x *ℚ y) z (checked_product_exact x y) e).1

pub checked_quotient_some : (x y : ℚ) → QuotientFits x y → checked_quotient x y ≡ Some (x /ℚ y)
checked_quotient_some x y f = some_where (checked_quotient x y) (QuotientFits x y) (x /ℚ y) (checked_quotient_exact x y) f

pub checked_quotient_value : (x y z : ℚ) → checked_quotient x y ≡ Some z → z ≡ x /ℚ y
checked_quotient_value x y z e = (value_where (checked_quotient x y) (QuotientFits x y) (x /ℚ y) z (checked_quotient_exact x y) e).1
