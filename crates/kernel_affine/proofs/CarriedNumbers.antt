-- What a number of a value becomes: in bounds, and for the fraction that is made of its own.
use Rattle.std.proofs.Common.{◌≡◌, ℕ, ⊎_elim, ℤ, pos, ◌+ℤ◌, ◌*ℤ◌, sym, ap, ◌∙◌, subst, arith}
use Rattle.std.specs.Prelude.{Option, Some, None, unsigned_abs, ◌≤ℤ◌, ◌^◌, ◌*◌}
use Rattle.std.specs.Int.{Width}
use Rattle.std.proofs.lemmas.Int.{ints}
use Rattle.frac_math.specs.Dither.{dither_at}
use Rattle.frac_math.specs.Fraction.{ℚ, nat, ◌+ℚ◌, ◌*ℚ◌, min_ℚ, max_ℚ}
use Rattle.frac_math.specs.Standing.{Stands}
use Rattle.frac_math.proofs.DitherLaws.{index_number-zero}
use Rattle.op_list.specs.Apply.{at_least, at_most}
use Rattle.kernel_step.specs.declared.form.Extent.{Extent}
use Rattle.kernel_step.specs.Rules.{nearest, but_at_least, but_at_most}
use Rattle.kernel_step.specs.ValueSteps.{IsAtLeast, IsAtMost, IsDithered, IsIn, IsMaximum, IsMinimum, IsNothing, IsScaled, IsScaling}
use Rattle.kernel_step.proofs.DitherSteps.{number_stands}
use Rattle.kernel_step.proofs.LimitSteps.{nearest_above, nearest_below}
use Rattle.kernel_step.proofs.ValueFractions.{dithered_stands, factor_stands, max_stands, min_stands, nearest_high, nearest_low, same_stands}
use Rattle.kernel_affine.specs.Chain.{bound_for, from_least, to_greatest}

pub record IsCarried (old new : Extent) (n m : ℤ) (makes : ℚ → ℚ) : Type 0 where
  pub inside : IsIn new m
  pub exact : (x : ℚ) → Stands x n (unsigned_abs old.denominator) → Stands (makes x) m (unsigned_abs new.denominator)

one_times : (n : ℤ) → pos 1 *ℤ n ≡ n
one_times n = omega (arith, ints)

-- a product with a factor that is 1
once : (k n : ℤ) → k ≡ pos 1 → k *ℤ n ≡ n
once k n one = ap (λ t. t *ℤ n) one ∙ one_times n

-- ---- a factor
nothing_in : (n a b : ℤ) → a ≡ pos 0 → b ≡ pos 0 → a ≤ℤ n → n ≤ℤ b → n ≡ pos 0
nothing_in n a b low high above below = omega (arith, ints, low, high, above, below)

nothing_product : (k n : ℤ) → n ≡ pos 0 → k *ℤ n ≡ pos 0
nothing_product k n none = ap (λ z. k *ℤ z) none ∙ omega (arith, ints)

pub scaling_carried : (width : Width) (old new : Extent) (by : ℚ) (k n : ℤ) → IsScaling width old by k new → IsIn old n
    → IsCarried old new n (k *ℤ n) (λ x. x *ℚ by)
scaling_carried width old new by k n is within = ⊎_elim scaled nothing is
  where
    scaled : IsScaled width old by k new → IsCarried old new n (k *ℤ n) (λ x. x *ℚ by)
    scaled factor = record { inside = factor.inside n within; exact = λ x stands. factor_stands old by k new x n factor.over stands }

    nothing : IsNothing old by k new → IsCarried old new n (k *ℤ n) (λ x. x *ℚ by)
    nothing dropped =
        let none : n ≡ pos 0 = nothing_in n old.least old.greatest dropped.least dropped.greatest within.0 within.1 in
        let same : dropped.other *ℤ n ≡ k *ℤ n = nothing_product dropped.other n none ∙ sym (nothing_product k n none) in
        record {
          inside = subst (IsIn new) (sym (nothing_product k n none)) dropped.there;
          exact = λ x stands. subst (λ m. Stands (x *ℚ by) m (unsigned_abs new.denominator)) same
              (factor_stands old by dropped.other new x n dropped.over stands);
        }

-- ---- a limit
same_carried : (width : Width) (old new : Extent) (k n : ℤ) → IsScaled width old (nat 1) k new → k ≡ pos 1 → IsIn old n
    → IsCarried old new n n (λ x. x)
same_carried width old new k n is one within =
    let same : k *ℤ n ≡ n = once k n one in
    record {
      inside = subst (IsIn new) same (is.inside n within);
      exact = λ x stands. subst (λ m. Stands x m (unsigned_abs new.denominator)) same (same_stands old k new x n is.over stands);
    }

maximum_carried : (width : Width) (old new : Extent) (limit : ℚ) (k n : ℤ) → IsMaximum width old limit k new → k ≡ pos 1 → IsIn old n
    → IsCarried old new n (but_at_least new.least n) (λ x. max_ℚ x limit)
maximum_carried width old new limit k n is one within =
    let same : k *ℤ n ≡ n = once k n one in
    let cut : nearest new.least new.greatest (k *ℤ n) ≡ but_at_least new.least n =
    ap (nearest new.least new.greatest) same
    ∙ sym (nearest_above new.least new.greatest n is.ordered (subst (λ m. m ≤ℤ new.greatest) same (is.below n within))) in
    record {
      inside = subst (IsIn new) cut
          (nearest_low new.least new.greatest (k *ℤ n) is.ordered, nearest_high new.least new.greatest (k *ℤ n));
      exact = λ x stands. subst (λ m. Stands (max_ℚ x limit) m (unsigned_abs new.denominator)) cut
          (max_stands width old limit k new x n is within stands);
    }

minimum_carried : (width : Width) (old new : Extent) (limit : ℚ) (k n : ℤ) → IsMinimum width old limit k new → k ≡ pos 1 → IsIn old n
    → IsCarried old new n (but_at_most new.greatest n) (λ x. min_ℚ x limit)
minimum_carried width old new limit k n is one within =
    let same : k *ℤ n ≡ n = once k n one in
    let cut : nearest new.least new.greatest (k *ℤ n) ≡ but_at_most new.greatest n =
    ap (nearest new.least new.greatest) same
    ∙ sym (nearest_below new.least new.greatest n (subst (λ m. new.least ≤ℤ m) same (is.above n within))) in
    record {
      inside = subst (IsIn new) cut
          (nearest_low new.least new.greatest (k *ℤ n) is.ordered, nearest_high new.least new.greatest (k *ℤ n));
      exact = λ x stands. subst (λ m. Stands (min_ℚ x limit) m (unsigned_abs new.denominator)) cut
          (min_stands width old limit k new x n is within stands);
    }

pub least_carried : (width : Width) (old new : Extent) (limit : Option ℚ) (k n : ℤ) → IsAtLeast width old limit k new → k ≡ pos 1
    → IsIn old n
    → IsCarried old new n (from_least (bound_for limit new.least) n) (λ x. at_least limit x)
least_carried width old new None k n is one within = same_carried width old new k n is one within
least_carried width old new (Some limit) k n is one within = maximum_carried width old new limit k n is one within

pub greatest_carried : (width : Width) (old new : Extent) (limit : Option ℚ) (k n : ℤ) → IsAtMost width old limit k new → k ≡ pos 1
    → IsIn old n
    → IsCarried old new n (to_greatest (bound_for limit new.greatest) n) (λ x. at_most limit x)
greatest_carried width old new None k n is one within = same_carried width old new k n is one within
greatest_carried width old new (Some limit) k n is one within = minimum_carried width old new limit k n is one within

-- ---- a half
half_stands : (x y : ℕ) → Stands (dither_at 0 x y) (pos 1) (2 * 4 ^ 0)
half_stands x y = number_stands 0 0 x y (sym (index_number-zero x y))

pub half_sum : (k n unit : ℤ) → k ≡ pos 1 → k *ℤ n +ℤ unit *ℤ pos 1 ≡ n +ℤ unit
half_sum k n unit one = omega (arith, ints, once k n one)

pub half_carried : (width : Width) (old new : Extent) (k unit n : ℤ) (x y : ℕ) → IsDithered width old 0 k unit new → k ≡ pos 1 → IsIn old n
    → IsCarried old new n (n +ℤ unit) (λ z. z +ℚ dither_at 0 x y)
half_carried width old new k unit n x y is one within =
    let same : k *ℤ n +ℤ unit *ℤ pos 1 ≡ n +ℤ unit = half_sum k n unit one in
    record {
      inside = subst (IsIn new) same (is.inside 1 n (omega arith) (omega arith) within);
      exact = λ z stands. subst (λ m. Stands (z +ℚ dither_at 0 x y) m (unsigned_abs new.denominator)) same
          (dithered_stands width old 0 k unit new z n x y 1 is stands (half_stands x y));
    }
