-- Each value made from that value alone, within the width of a list.
use Rattle.std.proofs.Common.{◌≡◌, ℕ, zero, suc, ◌+◌, ◌*◌, ◌/◌, ◌^◌, ◌<◌, ◌≤◌, max, inl, inr, ⊎_elim, ℤ, pos, negsuc, ◌*ℤ◌, ◌+ℤ◌, refl, sym}
use Rattle.std.proofs.Common.{ap, ◌∙◌, arith, subst, FitsSigned, to_z, of_z}
use Rattle.std.specs.Prelude.{◌≤ℤ◌, ◌<ℤ◌, unsigned_abs}
use Rattle.std.specs.Int.{w128}
use Rattle.std.proofs.Math.IntN.{pos-*ℤ-pos}
use Rattle.std.proofs.Math.Nat.{mul-le-mul_left, mul-le-mul_right}
use Rattle.std.proofs.lemmas.Bool.{cases_lt}
use native.Mathlib.Nat.{eq_of_mul-eq-mul_right}
use Rattle.std.proofs.lemmas.Int.{ints, to_z_pos, unsigned_abs-mul, fits_signed_from_abs}
use Rattle.frac_math.specs.Fraction.{ℚ, nat}
use Rattle.frac_math.proofs.Integers.{mul_assoc_ℤ}
use Rattle.frac_math.proofs.FractionRing.{denominator_positive, product_positive}
use Rattle.kernel_step.specs.declared.form.Extent.{Extent}
use Rattle.kernel_step.specs.declared.form.NumberWidth.{NumberWidth}
use Rattle.kernel_step.specs.Forms.{width_of}
use Rattle.kernel_step.specs.ValueSteps.{IsIn, IsFactor, IsScaled, IsScaling, IsMinimum, IsMaximum, IsDithered}
use Rattle.kernel_step.specs.ValueSteps.{IsOver}
use Rattle.kernel_step.proofs.Intervals.{plain}
use Rattle.kernel_joint.specs.Joint.{extent_size, IsAround, HasWidth, room}
use Rattle.kernel_joint.proofs.Rooms.{small_fits}

-- ---- sizes
abs_between : (a n b : ℤ) → a ≤ℤ n → n ≤ℤ b → unsigned_abs n ≤ max (unsigned_abs a) (unsigned_abs b)
abs_between a (pos n) (pos m) low high = omega (arith, ints, high)
abs_between a (pos n) (negsuc m) low high = absurd (omega (arith, ints, high))
abs_between (negsuc k) (negsuc n) b low high = omega (arith, ints, low)
abs_between (pos k) (negsuc n) b low high = absurd (omega (arith, ints, low))

pub abs_sum : (a b : ℤ) → unsigned_abs (a +ℤ b) ≤ unsigned_abs a + unsigned_abs b
abs_sum a b = below (a +ℤ b) a b refl
  where
    below : (s a b : ℤ) → s ≡ a +ℤ b → unsigned_abs s ≤ unsigned_abs a + unsigned_abs b
    below (pos s) (pos a) (pos b) h = omega (arith, ints, h)
    below (pos s) (pos a) (negsuc b) h = omega (arith, ints, h)
    below (pos s) (negsuc a) (pos b) h = omega (arith, ints, h)
    below (pos s) (negsuc a) (negsuc b) h = omega (arith, ints, h)
    below (negsuc s) (pos a) (pos b) h = omega (arith, ints, h)
    below (negsuc s) (pos a) (negsuc b) h = omega (arith, ints, h)
    below (negsuc s) (negsuc a) (pos b) h = omega (arith, ints, h)
    below (negsuc s) (negsuc a) (negsuc b) h = omega (arith, ints, h)

pub in_size : (old : Extent) (n : ℤ) → IsIn old n → unsigned_abs n ≤ extent_size old
in_size old n h = abs_between old.least n old.greatest h.0 h.1

pub product_size : (old : Extent) (k n : ℤ) → IsIn old n → unsigned_abs (k *ℤ n) ≤ extent_size old * unsigned_abs k
product_size old k n h = omega (arith, unsigned_abs-mul k n, mul-le-mul_right (unsigned_abs k) (in_size old n h))

pub around_size : (extent : Extent) (d size : ℕ) → IsAround extent d size → unsigned_abs extent.denominator ≡ d
around_size extent d size h = ap unsigned_abs h.denominator

-- ---- factors
pub scale_factor : (old new : Extent) (by : ℚ) → 0 < unsigned_abs new.denominator
    → unsigned_abs new.denominator ≡ unsigned_abs old.denominator * by.denominator
    → IsFactor old by by.numerator new
scale_factor old new by positive is = record { positive = positive; term = ap (λ n. by.numerator *ℤ pos n) (sym is) }

pub raised_factor : (old new : Extent) (e : ℕ) → 0 < unsigned_abs new.denominator
    → unsigned_abs new.denominator ≡ unsigned_abs old.denominator * e
    → IsFactor old (nat 1) (pos e) new
raised_factor old new e positive is = record {
  positive = positive;
  term = pos-*ℤ-pos e (unsigned_abs old.denominator * 1) ∙ ap pos (omega (arith, is)) ∙ sym (pos-*ℤ-pos 1 (unsigned_abs new.denominator));
}

-- ---- operations
pub scaled_is : (number_width : NumberWidth) (old new : Extent) (by : ℚ) (k : ℤ) (d size : ℕ) → IsAround new d size → IsFactor old by k new
    → FitsSigned (width_of number_width) k
    → extent_size old * unsigned_abs k ≤ size → size < room number_width → IsScaled (width_of number_width) old by k new
scaled_is number_width old new by k d size around over fits most small = record {
  over = over;
  fits = fits;
  products = λ n h. small_fits number_width (k *ℤ n) size (omega (arith, product_size old k n h, most)) small;
  inside = λ n h. around.inside (k *ℤ n) (omega (arith, product_size old k n h, most));
}

pub minimum_is : (number_width : NumberWidth) (old new : Extent) (limit : ℚ) (e size : ℕ) → IsFactor old (nat 1) (pos e) new
    → e < room number_width
    → extent_size old * e ≤ size → size < room number_width → extent_size new ≤ size → ((n : ℤ) → unsigned_abs n ≤ size → new.least ≤ℤ n)
    → IsOver new limit new.greatest
    → IsMinimum (width_of number_width) old limit (pos e) new
minimum_is number_width old new limit e size over e_small most small within least is = record {
  over = over;
  fits = small_fits number_width (pos e) e (omega arith) e_small;
  products = λ n h. small_fits number_width (pos e *ℤ n) size (omega (arith, product_size old (pos e) n h, most)) small;
  above = λ n h. least (pos e *ℤ n) (omega (arith, product_size old (pos e) n h, most));
  ordered = least new.greatest (omega (arith, within));
  least_fits = small_fits number_width new.least size (omega (arith, within)) small;
  greatest_fits = small_fits number_width new.greatest size (omega (arith, within)) small;
  cut = inl is;
}

pub maximum_is : (number_width : NumberWidth) (old new : Extent) (limit : ℚ) (e size : ℕ) → IsFactor old (nat 1) (pos e) new
    → e < room number_width
    → extent_size old * e ≤ size → size < room number_width → extent_size new ≤ size → ((n : ℤ) → unsigned_abs n ≤ size → n ≤ℤ new.greatest)
    → IsOver new limit new.least
    → IsMaximum (width_of number_width) old limit (pos e) new
maximum_is number_width old new limit e size over e_small most small within greatest is = record {
  over = over;
  fits = small_fits number_width (pos e) e (omega arith) e_small;
  products = λ n h. small_fits number_width (pos e *ℤ n) size (omega (arith, product_size old (pos e) n h, most)) small;
  below = λ n h. greatest (pos e *ℤ n) (omega (arith, product_size old (pos e) n h, most));
  ordered = greatest new.least (omega (arith, within));
  least_fits = small_fits number_width new.least size (omega (arith, within)) small;
  greatest_fits = small_fits number_width new.greatest size (omega (arith, within)) small;
  cut = inl is;
}

part_size : (unit m places d : ℕ) → unit * places ≡ d → m < places → unsigned_abs (pos unit *ℤ pos m) ≤ d
part_size unit m places d is below = omega (arith, unsigned_abs-mul (pos unit) (pos m), is, mul-le-mul_left unit (less m places below))
  where
    less : (m places : ℕ) → m < places → m ≤ places
    less m places h = omega (arith, h)

pub dithered_is : (number_width : NumberWidth) (old new : Extent) (count k unit d size : ℕ) → IsAround new d size
    → IsFactor old (nat 1) (pos k) new → k < room number_width
    → unit * (2 * 4 ^ count) ≡ d → extent_size old * k + d ≤ size → size < room number_width
    → IsDithered (width_of number_width) old count (pos k) (pos unit) new
dithered_is number_width old new count k unit d size around over k_small is most small =
    let product = λ (n : ℤ) (h : IsIn old n). product_size old (pos k) n h in
    let part = λ (m : ℕ) (below : m < 2 * 4 ^ count). part_size unit m (2 * 4 ^ count) d is below in
    let sum : (m : ℕ) (n : ℤ) → m < 2 * 4 ^ count → IsIn old n → unsigned_abs (pos k *ℤ n +ℤ pos unit *ℤ pos m) ≤ size =
    λ m n below h. omega (arith, abs_sum (pos k *ℤ n) (pos unit *ℤ pos m), product n h, part m below, most) in
    record {
      over = over;
      fits = small_fits number_width (pos k) k (omega arith) k_small;
      products = λ n h. small_fits number_width (pos k *ℤ n) size (omega (arith, product n h, most)) small;
      unit_is = pos-*ℤ-pos unit (2 * 4 ^ count) ∙ ap pos (is ∙ sym (around_size new d size around));
      unit_fits = small_fits number_width (pos unit) size (omega (arith, is, most, some_place count)) small;
      addends = λ m below. small_fits number_width (pos unit *ℤ pos m) size (omega (arith, part m below, most)) small;
      sums = λ m n some below h. small_fits number_width (pos k *ℤ n +ℤ pos unit *ℤ pos m) size (sum m n below h) small;
      inside = λ m n some below h. around.inside (pos k *ℤ n +ℤ pos unit *ℤ pos m) (sum m n below h);
    }
  where
    one_power : (count : ℕ) → 1 ≤ 4 ^ count
    one_power zero = omega arith
    one_power (suc count) = omega (arith, one_power count)

    one_place : (count : ℕ) → 1 ≤ 2 * 4 ^ count
    one_place count = omega (arith, one_power count)

    some_place : (count : ℕ) → unit ≤ unit * (2 * 4 ^ count)
    some_place count = omega (arith, mul-le-mul_left unit (one_place count))

-- ---- the same from what the code works out
pub times_plain : (a : ℤ) (n : ℕ) → FitsSigned w128 a → n < 2 ^ 126 → to_z w128 (of_z w128 a) *ℤ to_z w128 n ≡ a *ℤ pos n
times_plain a n fits small = ap (λ z. z *ℤ to_z w128 n) (plain a fits) ∙ ap (λ z. a *ℤ z) (to_z_pos w128 n (omega (arith, small)))

pub times_fits : (a : ℤ) (n : ℕ) → unsigned_abs a * n < 2 ^ 126 → FitsSigned w128 (a *ℤ pos n)
times_fits a n small = fits_signed_from_abs w128 (a *ℤ pos n) (omega (arith, unsigned_abs-mul a (pos n), small))

pub abs_positive : (z : ℤ) → pos 0 <ℤ z → 0 < unsigned_abs z
abs_positive (pos n) h = omega (arith, ints, h)
abs_positive (negsuc n) h = absurd (omega (arith, ints, h))

pub over_value : (a r : ℤ) (t q d e : ℕ) → r ≡ a *ℤ pos (t * d) → t * q ≡ e → r *ℤ pos q ≡ a *ℤ pos (d * e)
over_value a r t q d e is whole =
    ap (λ z. z *ℤ pos q) is ∙ mul_assoc_ℤ a (pos (t * d)) (pos q) ∙ ap (λ z. a *ℤ z) (pos-*ℤ-pos (t * d) q)
    ∙ ap (λ n. a *ℤ pos n) (omega (arith, ap (λ x. x * d) whole))

pub over_size : (a r : ℤ) (t d : ℕ) → r ≡ a *ℤ pos (t * d) → unsigned_abs r ≡ unsigned_abs a * t * d
over_size a r t d is = ap unsigned_abs is ∙ unsigned_abs-mul a (pos (t * d)) ∙ omega arith

pub scaled_made : (number_width : NumberWidth) (old new : Extent) (by : ℚ) (k : ℤ) → pos 0 <ℤ old.denominator → k ≡ by.numerator
    → FitsSigned (width_of number_width) k
    → IsAround new (unsigned_abs old.denominator * by.denominator) (extent_size old * unsigned_abs by.numerator)
    → extent_size old * unsigned_abs by.numerator < room number_width → IsScaled (width_of number_width) old by k new
scaled_made number_width old new by k positive is fits around small =
    let same = around_size new _ _ around in
    scaled_is number_width old new by k _ _ around
    (subst (λ z. IsFactor old by z new) (sym is) (scale_factor old new by
    (omega (
      arith,
      same,
      product_positive (unsigned_abs old.denominator) by.denominator (abs_positive old.denominator positive)
          (denominator_positive by),
    )) same))
    fits (omega (arith, ap (λ z. extent_size old * unsigned_abs z) is)) small

pub nothing_there : (old : Extent) → extent_size old ≡ 0 → (old.least ≡ pos 0) × (old.greatest ≡ pos 0)
nothing_there old h = (none old.least (omega (arith, h)), none old.greatest (omega (arith, h)))
  where
    none : (z : ℤ) → unsigned_abs z ≡ 0 → z ≡ pos 0
    none (pos n) h = ap pos h
    none (negsuc n) h = absurd (omega (arith, h))

-- the factor is 0 where the value is always 0
pub scaling_made : (number_width : NumberWidth) (old new : Extent) (by : ℚ) (k : ℤ) → pos 0 <ℤ old.denominator
    → (0 < extent_size old → k ≡ by.numerator) → (extent_size old ≡ 0 → k ≡ pos 0)
    → IsAround new (unsigned_abs old.denominator * by.denominator) (extent_size old * unsigned_abs by.numerator)
    → extent_size old * unsigned_abs by.numerator < room number_width → IsScaling (width_of number_width) old by k new
scaling_made number_width old new by k positive some none around small = either (extent_size old) refl
  where
    either : (size : ℕ) → extent_size old ≡ size → IsScaling (width_of number_width) old by k new
    either zero h =
        let nothing = nothing_there old h in
        inr (record {
          least = nothing.0;
          greatest = nothing.1;
          zero = none h;
          other = by.numerator;
          over = scale_factor old new by
              (omega (
                arith,
                around_size new _ _ around,
                product_positive (unsigned_abs old.denominator) by.denominator (abs_positive old.denominator positive)
                    (denominator_positive by),
              )) (around_size new _ _ around);
          there = around.inside (pos 0) (omega arith);
        })
    either (suc m) h =
        let there : 0 < extent_size old = omega (arith, h) in
        let is = some there in
        inl (scaled_made number_width old new by k positive is
        (small_fits number_width k (unsigned_abs by.numerator) (omega (arith, ap unsigned_abs is))
        (omega (arith, small, mul-le-mul_right (unsigned_abs by.numerator) there)))
        around small)

raised_over : (old new : Extent) (e : ℕ) (k : ℤ) → pos 0 <ℤ old.denominator → 0 < e → k ≡ pos e
    → new.denominator ≡ pos (unsigned_abs old.denominator * e)
    → IsFactor old (nat 1) (pos e) new
raised_over old new e k positive some is same =
    raised_factor old new e
    (omega (arith, ap unsigned_abs same, product_positive (unsigned_abs old.denominator) e (abs_positive old.denominator positive) some))
    (ap unsigned_abs same)

pub raised_made : (number_width : NumberWidth) (old new : Extent) (e : ℕ) (k : ℤ) → pos 0 <ℤ old.denominator → 0 < e → k ≡ pos e
    → e < room number_width
    → IsAround new (unsigned_abs old.denominator * e) (extent_size old * e) → extent_size old * e < room number_width
    → IsScaled (width_of number_width) old (nat 1) k new
raised_made number_width old new e k positive some is e_small around small =
    subst (λ z. IsScaled (width_of number_width) old (nat 1) z new) (sym is)
    (scaled_is number_width old new (nat 1) (pos e) _ _ around (raised_over old new e k positive some is around.denominator)
    (small_fits number_width (pos e) e (omega arith) e_small) (omega arith) small)

pub minimum_made : (number_width : NumberWidth) (old new wide : Extent) (limit : ℚ) (e size : ℕ) (k cut : ℤ) → pos 0 <ℤ old.denominator
    → 0 < e → k ≡ pos e → e < room number_width
    → IsAround wide (unsigned_abs old.denominator * e) size → new.denominator ≡ wide.denominator → new.least ≡ wide.least
    → new.greatest ≡ cut
    → size ≡ max (extent_size old * e) (unsigned_abs cut) → size < room number_width
    → cut *ℤ pos limit.denominator ≡ limit.numerator *ℤ pos (unsigned_abs old.denominator * e)
    → IsMinimum (width_of number_width) old limit k new
minimum_made number_width old new wide limit e size k cut positive some is e_small around over least greatest size_is small value =
    let same : unsigned_abs new.denominator ≡ unsigned_abs old.denominator * e = ap unsigned_abs (over ∙ around.denominator) in
    subst (λ z. IsMinimum (width_of number_width) old limit z new) (sym is)
    (minimum_is number_width old new limit e size (raised_over old new e k positive some is (over ∙ around.denominator)) e_small
    (omega (arith, size_is)) small
    (omega (arith, ap unsigned_abs least, ap unsigned_abs greatest, size_is, around.most))
    (λ n h. subst (λ z. z ≤ℤ n) (sym least) (around.inside n h).0)
    (subst (λ z. z *ℤ pos limit.denominator ≡ limit.numerator *ℤ pos (unsigned_abs new.denominator)) (sym greatest)
    (value ∙ ap (λ n. limit.numerator *ℤ pos n) (sym same))))

pub maximum_made : (number_width : NumberWidth) (old new wide : Extent) (limit : ℚ) (e size : ℕ) (k cut : ℤ) → pos 0 <ℤ old.denominator
    → 0 < e → k ≡ pos e → e < room number_width
    → IsAround wide (unsigned_abs old.denominator * e) size → new.denominator ≡ wide.denominator → new.greatest ≡ wide.greatest
    → new.least ≡ cut
    → size ≡ max (extent_size old * e) (unsigned_abs cut) → size < room number_width
    → cut *ℤ pos limit.denominator ≡ limit.numerator *ℤ pos (unsigned_abs old.denominator * e)
    → IsMaximum (width_of number_width) old limit k new
maximum_made number_width old new wide limit e size k cut positive some is e_small around over greatest least size_is small value =
    let same : unsigned_abs new.denominator ≡ unsigned_abs old.denominator * e = ap unsigned_abs (over ∙ around.denominator) in
    subst (λ z. IsMaximum (width_of number_width) old limit z new) (sym is)
    (maximum_is number_width old new limit e size (raised_over old new e k positive some is (over ∙ around.denominator)) e_small
    (omega (arith, size_is)) small
    (omega (arith, ap unsigned_abs least, ap unsigned_abs greatest, size_is, around.most))
    (λ n h. subst (λ z. n ≤ℤ z) (sym greatest) (around.inside n h).1)
    (subst (λ z. z *ℤ pos limit.denominator ≡ limit.numerator *ℤ pos (unsigned_abs new.denominator)) (sym least)
    (value ∙ ap (λ n. limit.numerator *ℤ pos n) (sym same))))

pub dithered_made : (number_width : NumberWidth) (old new : Extent) (count places d h : ℕ) (k unit : ℤ) → pos 0 <ℤ old.denominator → 0 < d
    → places ≡ 2 * 4 ^ count
    → h * unsigned_abs old.denominator ≡ d → d / places * places ≡ d → d < room number_width → extent_size old * h + d < room number_width
    → k ≡ pos h
    → unit ≡ pos (d / places)
    → IsAround new d (extent_size old * h + d) → IsDithered (width_of number_width) old count k unit new
dithered_made number_width old new count places d h k unit positive some place over whole d_small small k_is unit_is around =
    let same = around_size new _ _ around in
    let each : d / places * (2 * 4 ^ count) ≡ d = ap (λ p. d / places * p) (sym place) ∙ whole in
    subst (λ z. IsDithered (width_of number_width) old count z unit new) (sym k_is)
    (subst (λ z. IsDithered (width_of number_width) old count (pos h) z new) (sym unit_is)
    (dithered_is number_width old new count h (d / places) d (extent_size old * h + d) around
    (raised_factor old new h (omega (arith, same, some)) (omega (arith, same, over)))
    (omega (arith, over, d_small, mul-le-mul_left h (abs_positive old.denominator positive))) each (omega arith) small))

-- ---- the width of the new value
pub width_scaled : (old new : Extent) (d size times f : ℕ) → HasWidth old d size → pos 0 <ℤ new.denominator
    → unsigned_abs new.denominator ≡ unsigned_abs old.denominator * times → extent_size new ≤ extent_size old * f
    → HasWidth new (d * times) (size * f)
width_scaled old new d size times f has positive is most = record {
  positive = positive;
  factor = has.factor;
  over = omega (arith, is, ap (λ x. x * has.factor) is, ap (λ x. x * times) has.over);
  most = omega (arith, mul-le-mul_right has.factor most, mul-le-mul_right f has.most);
}

-- limited by a number that over the old denominator has the size m, and over d the size n
pub width_limited : (old new : Extent) (d size e m n : ℕ) → (has : HasWidth old d size) → pos 0 <ℤ new.denominator
    → unsigned_abs new.denominator ≡ unsigned_abs old.denominator * e → extent_size new ≤ max (extent_size old * e) m → m * has.factor ≡ n
    → HasWidth new (d * e) (max (size * e) n)
width_limited old new d size e m n has positive is most limit = record {
  positive = positive;
  factor = has.factor;
  over = omega (arith, is, ap (λ x. x * has.factor) is, ap (λ x. x * e) has.over);
  most = limited (extent_size old * e) m (size * e) n has.factor (omega (arith, mul-le-mul_right e has.most)) limit
      (mul-le-mul_right has.factor most);
}
  where
    limited : (a m b n g : ℕ) → a * g ≤ b → m * g ≡ n → extent_size new * g ≤ max a m * g → extent_size new * g ≤ max b n
    limited a m b n g h is within =
        ⊎_elim
        (λ (lt : a < m). (let top : max a m ≡ m = omega (arith, lt) in omega (arith, within, ap (λ x. x * g) top, is)))
        (λ (le : m ≤ a). (let top : max a m ≡ a = omega (arith, le) in omega (arith, within, ap (λ x. x * g) top, h)))
        (cases_lt a m)

-- over a new denominator: k = f * factor
pub width_dithered : (old new : Extent) (d size f k : ℕ) → (has : HasWidth old d size) → 0 < d → pos 0 <ℤ new.denominator
    → unsigned_abs new.denominator ≡ d * f → k * unsigned_abs old.denominator ≡ d * f → extent_size new ≤ extent_size old * k + d * f
    → HasWidth new (d * f) (size * f + d * f)
width_dithered old new d size f k has positive above is factor most = record {
  positive = above;
  factor = 1;
  over = omega (arith, is);
  most = omega (arith, most, ap (λ x. extent_size old * x) (factor_is old d size f k has positive factor), mul-le-mul_right f has.most);
}
  where
    factor_is : (old : Extent) (d size f k : ℕ) → (has : HasWidth old d size) → 0 < d → k * unsigned_abs old.denominator ≡ d * f
        → k ≡ has.factor * f
    factor_is old d size f k has positive h =
        eq_of_mul-eq-mul_right (unsigned_abs old.denominator) (some (unsigned_abs old.denominator) has.factor d has.over positive) k
        (has.factor * f)
        (omega (arith, h, ap (λ x. x * f) has.over))
      where
        some : (a g d : ℕ) → a * g ≡ d → 0 < d → 0 < a
        some zero g d is positive = omega (arith, is, positive)
        some (suc a) g d is positive = omega arith
