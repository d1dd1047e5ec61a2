-- Two linear maps as one do not raise the peak.
use Rattle.std.proofs.Common.{◌≡◌, ℕ, zero, suc, ◌+◌, ◌*◌, ◌/◌, ◌<◌, ◌≤◌, Bool, true, false, not, ◌&&◌, ◌||◌, if◌then◌else◌, List, []}
use Rattle.std.proofs.Common.{◌∷◌, ℤ, pos, ◌+ℤ◌}
use Rattle.std.proofs.Common.{nat_eq, max, subst, refl, sym, ◌∙◌, ap, arith}
use Rattle.std.specs.Prelude.{Some, unsigned_abs}
use Rattle.std.proofs.lemmas.Int.{ints, unsigned_abs-mul}
use Rattle.std.proofs.lemmas.Option.{none-some, option_and_then_some}
use Rattle.std.proofs.lemmas.Bool.{and_parts}
use Rattle.std.proofs.Math.Nat.{div-mul_cancel, mul-le-mul_right, mul-le-mul_left}
use Prim.Native.Nat.{◌∣◌}
use native.Mathlib.Nat.{eq_of_mul-eq-mul_right, mul-le-mul}
use Rattle.frac_math.specs.Fraction.{ℚ, nat, over, equal_ℚ, ◌+ℚ◌, ◌*ℚ◌}
use Rattle.frac_math.specs.Gcd.{gcd}
use Rattle.frac_math.specs.Checked.{checked_product}
use Rattle.frac_math.specs.Standing.{Stands}
use Rattle.frac_math.proofs.FractionRing.{denominator_positive, denominator_divides, common_add, product_positive, mul-zero, mul_comm}
use Rattle.op_list.specs.declared.types.Stage.{Stage}
use Rattle.op_list.specs.declared.op.Op.{Op}
use Rattle.op_list.specs.declared.op.Op.TheVariants.{Linear, Scale}
use Rattle.op_list.specs.Typing.{stage_after}
use Rattle.op_list.specs.Values.{four, fraction_in}
use Rattle.op_list.specs.Apply.{row_of}
use Rattle.op_list.proofs.Exact.{checked_product-exact, all_four-exact}
use Rattle.op_list.proofs.Four.{get_or-four}
use Rattle.op_range.specs.declared.width.Width.{Width}
use Rattle.op_range.specs.FractionBounds.{HasBound, bound, bound_of}
use Rattle.op_range.specs.Used.{is_used, any_of_four, takes, used_before, used_from}
use Rattle.op_range.specs.Width.{rows_denominator, size_over, width_of, size_in, row_size, fractions_width}
use Rattle.op_range.proofs.FractionBounds.{itself_bound, raised, product_bounded, nat_bound}
use Rattle.op_opt.specs.declared.change.Change.{Change}
use Rattle.op_opt.specs.Changes.{changed, taking}
use Rattle.op_opt.specs.JoinMaps.{diagonal, column_of, joined_row, joined_rows, join_maps}
use Rattle.op_opt.specs.Peak.{Peaked, greatest_of_four, fractions_peak}
use Rattle.op_opt.proofs.JoiningMaps.{exact_dot, exact_row, row_exact}
use Rattle.op_range.proofs.Multiples.{rows_divide, rows_each, rows_positive, size_scaled, one_divides, quotient_positive}
use Rattle.op_opt.proofs.PeakSteps.{IsPart, Below, peaked, below_of, fractions_after, max_scaled, greatest_scaled, taken_used}
use Rattle.op_opt.proofs.PeakSteps.{taken_or_zero}
use Rattle.op_opt.proofs.PeakSteps.{sum_scaled}
use Rattle.op_opt.proofs.PeakFronts.{Eases, any_found, part_itself, two_fractions}
use Rattle.op_opt.proofs.PeakTidy.{greatest_at}
use Rattle.op_opt.proofs.PeakPasses.{IsEasing, by_change}

-- ---- bounds of sums and products
size_add : (a b : ℤ) → unsigned_abs (a +ℤ b) ≤ unsigned_abs a + unsigned_abs b
size_add a b = omega (arith, ints)

added : (x y : ℚ) (d m n : ℕ) → HasBound x (bound d m) → HasBound y (bound d n) → HasBound (x +ℚ y) (bound d (m + n))
added x y d m n h k = record {
  numerator = h.numerator +ℤ k.numerator;
  stands = common_add x y h.numerator k.numerator d h.stands k.stands;
  most = omega (arith, size_add h.numerator k.numerator, h.most, k.most);
}

-- a fraction over a multiple of its denominator
over_bound : (e : ℕ) (x : ℚ) → 0 < e → x.denominator ∣ e → HasBound x (bound e (size_over e x))
over_bound e x p h =
    subst (λ (d : ℕ). HasBound x (bound d (size_over e x))) regroup
    (raised x x.denominator (unsigned_abs x.numerator) (e / x.denominator) (itself_bound x) (quotient_positive x.denominator e h p))
  where
    regroup : x.denominator * (e / x.denominator) ≡ e
    regroup = omega (arith, div-mul_cancel x.denominator h)

zero_bound : (d : ℕ) → 0 < d → HasBound (nat 0) (bound d 0)
zero_bound d p =
    subst (λ (e : ℕ). HasBound (nat 0) (bound e 0)) one
    (subst (λ (n : ℕ). HasBound (nat 0) (bound (1 * d) n)) none (raised (nat 0) 1 0 d (nat_bound 0 0 (omega arith)) p))
  where
    one : 1 * d ≡ d
    one = omega arith

    none : 0 * d ≡ 0
    none = omega arith

cancelled : (d q a s m : ℕ) → 0 < d → q * d ≡ m → a * m ≡ s * d → a * q ≡ s
cancelled d q a s m p is h = eq_of_mul-eq-mul_right d p (a * q) s (omega (arith, ap (λ x. a * x) is, h))

crossed_sizes : (x : ℚ) (n : ℤ) (d : ℕ) → Stands x n d → unsigned_abs x.numerator * d ≡ unsigned_abs n * x.denominator
crossed_sizes x n d s = sym (unsigned_abs-mul x.numerator (pos d)) ∙ ap unsigned_abs s.cross ∙ unsigned_abs-mul n (pos x.denominator)

-- what a bound over m says of the denominator and of the size over m
bound_divides : (x : ℚ) (m n : ℕ) → HasBound x (bound m n) → x.denominator ∣ m
bound_divides x m n h = denominator_divides x h.numerator m h.stands

bound_size : (x : ℚ) (m n : ℕ) → HasBound x (bound m n) → size_over m x ≤ n
bound_size x m n h =
    let is = cancelled x.denominator (m / x.denominator) (unsigned_abs x.numerator) (unsigned_abs h.numerator) m (denominator_positive x)
    (div-mul_cancel x.denominator (bound_divides x m n h)) (crossed_sizes x h.numerator m h.stands) in
    omega (arith, is, h.most)

-- ---- a map, as its coefficients stand over one number
record IsOver (rows : List (List ℚ)) (op : Op) (e : ℕ) (size : ℕ → ℕ → ℕ) : Type 0 where
  positive : 0 < e
  bounds : (i j : ℕ) → i < 4 → j < 5 → HasBound (fraction_in (row_of rows i) j) (bound e (size i j))
  denominator : (w : Width) → (fractions_width op w).denominator ≡ w.denominator * e
  width : (w : Width) (i : ℕ) → i < 4 → size_in (fractions_width op w) i ≡ size i 0 * size_in w 0 + size i 1 * size_in w 1
      + size i 2 * size_in w 2 + size i 3 * size_in w 3 + size i 4 * w.denominator
  uses : (used : List Bool) (i j : ℕ) → i < 4 → j < 4 → is_used used i ≡ true → takes (row_of rows i) j ≡ true
      → is_used (used_before op used) j ≡ true
  stays : (stage : Stage) → stage_after stage op ≡ stage

linear_over : (rows : List (List ℚ)) → IsOver rows (Linear rows) (rows_denominator rows)
    (λ i j. size_over (rows_denominator rows) (fraction_in (row_of rows i) j))
unfolding fractions_width stage_after
linear_over rows = record {
  positive = rows_positive rows;
  bounds = λ i j below inside. over_bound (rows_denominator rows) (fraction_in (row_of rows i) j) (rows_positive rows) (rows_each rows i j);
  denominator = λ w. refl;
  width = λ w i below. get_or-four (λ k. row_size (rows_denominator rows) (row_of rows k) w) i 0 below;
  uses = λ used i j below inside u t. taken_used rows used i j below inside u t;
  stays = λ stage. refl;
}

-- ---- a scale
abbrev scale_size : ℚ → ℕ → ℕ → ℕ
scale_size by i j = if nat_eq i j then unsigned_abs by.numerator else 0

scale_bounds : (by : ℚ) (i j : ℕ) → i < 4 → j < 5 → HasBound (fraction_in (row_of (diagonal by) i) j) (bound by.denominator
    (scale_size by i j))
scale_bounds by zero zero below inside = itself_bound by
scale_bounds by zero (suc zero) below inside = zero_bound by.denominator (denominator_positive by)
scale_bounds by zero (suc (suc zero)) below inside = zero_bound by.denominator (denominator_positive by)
scale_bounds by zero (suc (suc (suc zero))) below inside = zero_bound by.denominator (denominator_positive by)
scale_bounds by zero (suc (suc (suc (suc zero)))) below inside = zero_bound by.denominator (denominator_positive by)
scale_bounds by zero (suc (suc (suc (suc (suc j))))) below inside = absurd (omega arith)
scale_bounds by (suc zero) zero below inside = zero_bound by.denominator (denominator_positive by)
scale_bounds by (suc zero) (suc zero) below inside = itself_bound by
scale_bounds by (suc zero) (suc (suc zero)) below inside = zero_bound by.denominator (denominator_positive by)
scale_bounds by (suc zero) (suc (suc (suc zero))) below inside = zero_bound by.denominator (denominator_positive by)
scale_bounds by (suc zero) (suc (suc (suc (suc zero)))) below inside = zero_bound by.denominator (denominator_positive by)
scale_bounds by (suc zero) (suc (suc (suc (suc (suc j))))) below inside = absurd (omega arith)
scale_bounds by (suc (suc zero)) zero below inside = zero_bound by.denominator (denominator_positive by)
scale_bounds by (suc (suc zero)) (suc zero) below inside = zero_bound by.denominator (denominator_positive by)
scale_bounds by (suc (suc zero)) (suc (suc zero)) below inside = itself_bound by
scale_bounds by (suc (suc zero)) (suc (suc (suc zero))) below inside = zero_bound by.denominator (denominator_positive by)
scale_bounds by (suc (suc zero)) (suc (suc (suc (suc zero)))) below inside = zero_bound by.denominator (denominator_positive by)
scale_bounds by (suc (suc zero)) (suc (suc (suc (suc (suc j))))) below inside = absurd (omega arith)
scale_bounds by (suc (suc (suc zero))) zero below inside = zero_bound by.denominator (denominator_positive by)
scale_bounds by (suc (suc (suc zero))) (suc zero) below inside = zero_bound by.denominator (denominator_positive by)
scale_bounds by (suc (suc (suc zero))) (suc (suc zero)) below inside = zero_bound by.denominator (denominator_positive by)
scale_bounds by (suc (suc (suc zero))) (suc (suc (suc zero))) below inside = itself_bound by
scale_bounds by (suc (suc (suc zero))) (suc (suc (suc (suc zero)))) below inside = zero_bound by.denominator (denominator_positive by)
scale_bounds by (suc (suc (suc zero))) (suc (suc (suc (suc (suc j))))) below inside = absurd (omega arith)
scale_bounds by (suc (suc (suc (suc i)))) j below inside = absurd (omega arith)

scale_width : (by : ℚ) (w : Width) (i : ℕ) → i < 4 → size_in w i * unsigned_abs by.numerator ≡ scale_size by i 0 * size_in w 0
    + scale_size by i 1 * size_in w 1 + scale_size by i 2 * size_in w 2 + scale_size by i 3 * size_in w 3 + scale_size by i 4 *
    w.denominator
scale_width by w zero below = at0 (unsigned_abs by.numerator) (size_in w 0) (size_in w 1) (size_in w 2) (size_in w 3) w.denominator
  where
    at0 : (p a b c d x : ℕ) → a * p ≡ p * a + 0 * b + 0 * c + 0 * d + 0 * x
    at0 p a b c d x = omega arith
scale_width by w (suc zero) below = at1 (unsigned_abs by.numerator) (size_in w 0) (size_in w 1) (size_in w 2) (size_in w 3) w.denominator
  where
    at1 : (p a b c d x : ℕ) → b * p ≡ 0 * a + p * b + 0 * c + 0 * d + 0 * x
    at1 p a b c d x = omega arith
scale_width by w (suc (suc zero)) below = at2 (unsigned_abs by.numerator) (size_in w 0) (size_in w 1) (size_in w 2)
    (size_in w 3) w.denominator
  where
    at2 : (p a b c d x : ℕ) → c * p ≡ 0 * a + 0 * b + p * c + 0 * d + 0 * x
    at2 p a b c d x = omega arith
scale_width by w (suc (suc (suc zero))) below = at3 (unsigned_abs by.numerator) (size_in w 0) (size_in w 1) (size_in w 2)
    (size_in w 3) w.denominator
  where
    at3 : (p a b c d x : ℕ) → d * p ≡ 0 * a + 0 * b + 0 * c + p * d + 0 * x
    at3 p a b c d x = omega arith
scale_width by w (suc (suc (suc (suc i)))) below = absurd (omega arith)

not_taken : not (equal_ℚ (nat 0) (nat 0)) ≡ true → ⊥
unfolding equal_ℚ
not_taken h = cc

scale_uses : (by : ℚ) (used : List Bool) (i j : ℕ) → i < 4 → j < 4 → is_used used i ≡ true → takes (row_of (diagonal by) i) j ≡ true
    → is_used used j ≡ true
scale_uses by used zero zero below inside u t = u
scale_uses by used zero (suc zero) below inside u t = absurd (not_taken t)
scale_uses by used zero (suc (suc zero)) below inside u t = absurd (not_taken t)
scale_uses by used zero (suc (suc (suc zero))) below inside u t = absurd (not_taken t)
scale_uses by used zero (suc (suc (suc (suc j)))) below inside u t = absurd (omega arith)
scale_uses by used (suc zero) zero below inside u t = absurd (not_taken t)
scale_uses by used (suc zero) (suc zero) below inside u t = u
scale_uses by used (suc zero) (suc (suc zero)) below inside u t = absurd (not_taken t)
scale_uses by used (suc zero) (suc (suc (suc zero))) below inside u t = absurd (not_taken t)
scale_uses by used (suc zero) (suc (suc (suc (suc j)))) below inside u t = absurd (omega arith)
scale_uses by used (suc (suc zero)) zero below inside u t = absurd (not_taken t)
scale_uses by used (suc (suc zero)) (suc zero) below inside u t = absurd (not_taken t)
scale_uses by used (suc (suc zero)) (suc (suc zero)) below inside u t = u
scale_uses by used (suc (suc zero)) (suc (suc (suc zero))) below inside u t = absurd (not_taken t)
scale_uses by used (suc (suc zero)) (suc (suc (suc (suc j)))) below inside u t = absurd (omega arith)
scale_uses by used (suc (suc (suc zero))) zero below inside u t = absurd (not_taken t)
scale_uses by used (suc (suc (suc zero))) (suc zero) below inside u t = absurd (not_taken t)
scale_uses by used (suc (suc (suc zero))) (suc (suc zero)) below inside u t = absurd (not_taken t)
scale_uses by used (suc (suc (suc zero))) (suc (suc (suc zero))) below inside u t = u
scale_uses by used (suc (suc (suc zero))) (suc (suc (suc (suc j)))) below inside u t = absurd (omega arith)
scale_uses by used (suc (suc (suc (suc i)))) j below inside u t = absurd (omega arith)

scale_over : (by : ℚ) → IsOver (diagonal by) (Scale by) by.denominator (scale_size by)
unfolding fractions_width stage_after used_before
scale_over by = record {
  positive = denominator_positive by;
  bounds = scale_bounds by;
  denominator = λ w. refl;
  width = λ w i below. get_or-four (λ k. size_in w k * unsigned_abs by.numerator) i 0 below ∙ scale_width by w i below;
  uses = scale_uses by;
  stays = λ stage. refl;
}

-- ---- the join
abbrev dot_size : (ℕ → ℕ) → (ℕ → ℕ) → ℕ
dot_size b a = 0 + b 0 * a 0 + b 1 * a 1 + b 2 * a 2 + b 3 * a 3

dot_bound : (row : List ℚ) (rows : List (List ℚ)) (j e f : ℕ) (b a : ℕ → ℕ) → 0 < f * e
    → ((k : ℕ) → k < 4 → HasBound (fraction_in row k) (bound f (b k))) → ((k : ℕ) → k < 4
    → HasBound (fraction_in (row_of rows k) j) (bound e (a k)))
    → HasBound (exact_dot row (column_of rows j)) (bound (f * e) (dot_size b a))
unfolding exact_dot
dot_bound row rows j e f b a positive left right =
    let term = λ (k : ℕ) (below : k < 4). product_bounded (fraction_in row k) (fraction_in (row_of rows k) j) (bound f (b k)) (bound e
    (a k))
    (left k below) (right k below) in
    added _ _ (f * e) _ _ (added _ _ (f * e) _ _ (added _ _ (f * e) _ _ (added _ _ (f * e) _ _ (zero_bound (f * e) positive)
    (term 0 (omega arith))) (term 1 (omega arith))) (term 2 (omega arith))) (term 3 (omega arith))

regrouped : (b0 b1 b2 b3 b4 e n0 n1 n2 n3 d p0 p1 p2 p3 p4 q0 q1 q2 q3 q4 r0 r1 r2 r3 r4 s0 s1 s2 s3 s4 : ℕ)
    → (0 + b0 * p0 + b1 * q0 + b2 * r0 + b3 * s0) * n0 + (0 + b0 * p1 + b1 * q1 + b2 * r1 + b3 * s1) * n1 +
    (0 + b0 * p2 + b1 * q2 + b2 * r2 + b3 * s2) * n2 + (0 + b0 * p3 + b1 * q3 + b2 * r3 + b3 * s3) * n3 +
    (0 + b0 * p4 + b1 * q4 + b2 * r4 + b3 * s4 + b4 * e) * d
    ≡ b0 * (p0 * n0 + p1 * n1 + p2 * n2 + p3 * n3 + p4 * d) + b1 * (q0 * n0 + q1 * n1 + q2 * n2 + q3 * n3 + q4 * d) + b2 *
    (r0 * n0 + r1 * n1 + r2 * n2 + r3 * n3 + r4 * d) + b3 * (s0 * n0 + s1 * n1 + s2 * n2 + s3 * n3 + s4 * d) + b4 * (d * e)
regrouped b0 b1 b2 b3 b4 e n0 n1 n2 n3 d p0 p1 p2 p3 p4 q0 q1 q2 q3 q4 r0 r1 r2 r3 r4 s0 s1 s2 s3 s4 = omega arith

pub joined_exact : (first second joined : List (List ℚ)) → joined_rows first second ≡ Some joined
    → four (λ i. exact_row (row_of second i) first) ≡ joined
unfolding joined_rows
joined_exact first second joined h =
    all_four-exact (λ i. joined_row (row_of second i) first) (λ i. exact_row (row_of second i) first) joined
    (λ i out e. row_exact (row_of second i) first out e) h

-- ---- what the joined rows stand over
row_bounds : (first second : List (List ℚ)) (p q : Op) (e f : ℕ) (a b : ℕ → ℕ → ℕ) → IsOver first p e a → IsOver second q f b
    → (i j : ℕ) → i < 4 → j < 5
    → HasBound (exact_dot (row_of second i) (column_of first j)) (bound (f * e) (dot_size (b i) (λ k. a k j)))
row_bounds first second p q e f a b over_a over_b i j below inside =
    dot_bound (row_of second i) first j e f (b i) (λ k. a k j) (product_positive f e over_b.positive over_a.positive)
    (λ k here. over_b.bounds i k below (omega arith)) (λ k here. over_a.bounds k j here inside)

last_bound : (first second : List (List ℚ)) (p q : Op) (e f : ℕ) (a b : ℕ → ℕ → ℕ) → IsOver first p e a → IsOver second q f b
    → (i : ℕ) → i < 4
    → HasBound (exact_dot (row_of second i) (column_of first 4) +ℚ fraction_in (row_of second i) 4)
    (bound (f * e) (dot_size (b i) (λ k. a k 4) + b i 4 * e))
last_bound first second p q e f a b over_a over_b i below =
    added _ _ (f * e) _ _ (row_bounds first second p q e f a b over_a over_b i 4 below (omega arith))
    (raised (fraction_in (row_of second i) 4) f (b i 4) e (over_b.bounds i 4 below (omega arith)) over_a.positive)

row_over : (first second : List (List ℚ)) (p q : Op) (e f : ℕ) (a b : ℕ → ℕ → ℕ) → IsOver first p e a → IsOver second q f b → (i : ℕ)
    → i < 4 → (j : ℕ)
    → (fraction_in (exact_row (row_of second i) first) j).denominator ∣ f * e
unfolding exact_row
row_over first second p q e f a b over_a over_b i below zero = bound_divides _ _ _
    (row_bounds first second p q e f a b over_a over_b i 0 below (omega arith))
row_over first second p q e f a b over_a over_b i below (suc zero) = bound_divides _ _ _
    (row_bounds first second p q e f a b over_a over_b i 1 below (omega arith))
row_over first second p q e f a b over_a over_b i below (suc (suc zero)) = bound_divides _ _ _
    (row_bounds first second p q e f a b over_a over_b i 2 below (omega arith))
row_over first second p q e f a b over_a over_b i below (suc (suc (suc zero))) = bound_divides _ _ _
    (row_bounds first second p q e f a b over_a over_b i 3 below (omega arith))
row_over first second p q e f a b over_a over_b i below (suc (suc (suc (suc zero)))) = bound_divides _ _ _
    (last_bound first second p q e f a b over_a over_b i below)
row_over first second p q e f a b over_a over_b i below (suc (suc (suc (suc (suc j))))) = one_divides (f * e)

all_over : (first second : List (List ℚ)) (p q : Op) (e f : ℕ) (a b : ℕ → ℕ → ℕ) → IsOver first p e a → IsOver second q f b → (i j : ℕ)
    → (fraction_in (row_of (four (λ k. exact_row (row_of second k) first)) i) j).denominator ∣ f * e
all_over first second p q e f a b over_a over_b zero j = row_over first second p q e f a b over_a over_b 0 (omega arith) j
all_over first second p q e f a b over_a over_b (suc zero) j = row_over first second p q e f a b over_a over_b 1 (omega arith) j
all_over first second p q e f a b over_a over_b (suc (suc zero)) j = row_over first second p q e f a b over_a over_b 2 (omega arith) j
all_over first second p q e f a b over_a over_b (suc (suc (suc zero))) j = row_over first second p q e f a b over_a over_b 3 (omega arith) j
all_over first second p q e f a b over_a over_b (suc (suc (suc (suc i)))) j = one_divides (f * e)

size_below : (c g m n : ℕ) (x : ℚ) → c * g ≡ m → x.denominator ∣ c → HasBound x (bound m n) → (k : ℕ) → size_over c x * k * g ≤ n * k
size_below c g m n x is over h k =
    let up = ap (λ l. size_over l x) (sym is) ∙ size_scaled c g x over in
    plain (size_over c x) (size_over m x) g n k up (bound_size x m n h)
  where
    plain : (s t g n k : ℕ) → t ≡ s * g → t ≤ n → s * k * g ≤ n * k
    plain s t g n k e le = omega (arith, ap (λ x. x * k) e, mul-le-mul_right k le)

exact_size : (first second : List (List ℚ)) (p q : Op) (e f : ℕ) (a b : ℕ → ℕ → ℕ) → IsOver first p e a → IsOver second q f b
    → (c g : ℕ) → c * g ≡ f * e
    → (w : Width) (i : ℕ) → i < 4 → ((j : ℕ) → (fraction_in (exact_row (row_of second i) first) j).denominator ∣ c)
    → row_size c (exact_row (row_of second i) first) w * g ≤ size_in (fractions_width q (fractions_width p w)) i
unfolding exact_row
exact_size first second p q e f a b over_a over_b c g is w i below each =
    let row = exact_row (row_of second i) first in
    let bounds = λ (j : ℕ) (inside : j < 5). row_bounds first second p q e f a b over_a over_b i j below inside in
    let most = sum_scaled _ _ _ _ (size_over c (fraction_in row 4) * w.denominator) _ _ _ _ _ g
    (size_below c g (f * e) _ (fraction_in row 0) is (each 0) (bounds 0 (omega arith)) (size_in w 0))
    (size_below c g (f * e) _ (fraction_in row 1) is (each 1) (bounds 1 (omega arith)) (size_in w 1))
    (size_below c g (f * e) _ (fraction_in row 2) is (each 2) (bounds 2 (omega arith)) (size_in w 2))
    (size_below c g (f * e) _ (fraction_in row 3) is (each 3) (bounds 3 (omega arith)) (size_in w 3))
    (size_below c g (f * e) _ (fraction_in row 4) is (each 4) (last_bound first second p q e f a b over_a over_b i below) w.denominator) in
    let mid = fractions_width p w in
    let same = regrouped (b i 0) (b i 1) (b i 2) (b i 3) (b i 4) e (size_in w 0) (size_in w 1) (size_in w 2) (size_in w 3) w.denominator
    (a 0 0) (a 0 1) (a 0 2) (a 0 3) (a 0 4) (a 1 0) (a 1 1) (a 1 2) (a 1 3) (a 1 4)
    (a 2 0) (a 2 1) (a 2 2) (a 2 3) (a 2 4) (a 3 0) (a 3 1) (a 3 2) (a 3 3) (a 3 4) in
    let one = λ (k : ℕ) (here : k < 4). ap (λ x. b i k * x) (over_a.width w k here) in
    let last = ap (λ x. b i 4 * x) (over_a.denominator w) in
    let whole = over_b.width mid i below in
    finish _ _ _ _ _ _ _ _ _ _ _ _ _ most same whole (one 0 (omega arith)) (one 1 (omega arith)) (one 2 (omega arith)) (one 3
    (omega arith)) last
  where
    finish : (r s t x0 x1 x2 x3 x4 y0 y1 y2 y3 y4 : ℕ) → r ≤ s → s ≡ y0 + y1 + y2 + y3 + y4 → t ≡ x0 + x1 + x2 + x3 + x4
        → x0 ≡ y0 → x1 ≡ y1 → x2 ≡ y2 → x3 ≡ y3 → x4 ≡ y4 → r ≤ t
    finish r s t x0 x1 x2 x3 x4 y0 y1 y2 y3 y4 h1 h2 h3 e0 e1 e2 e3 e4 = omega (arith, h1, h2, h3, e0, e1, e2, e3, e4)

-- ---- used values
zero_product : (x y : ℚ) (s t : Bool) → (s ≡ false → x ≡ nat 0) → (t ≡ false → y ≡ nat 0) → (s && t) ≡ false → x *ℚ y ≡ nat 0
zero_product x y true true hx hy h = absurd (cc)
zero_product x y true false hx hy h = ap (λ z. x *ℚ z) (hy refl) ∙ mul-zero x
zero_product x y false t hx hy h = ap (λ z. z *ℚ y) (hx refl) ∙ mul_comm (nat 0) y ∙ mul-zero y

zero_sum : nat 0 +ℚ nat 0 ≡ nat 0
unfolding ◌+ℚ◌ over gcd
zero_sum = refl

sum_zero : (x y : ℚ) → x ≡ nat 0 → y ≡ nat 0 → x +ℚ y ≡ nat 0
sum_zero x y h k = ap (λ z. z +ℚ y) h ∙ ap (λ z. nat 0 +ℚ z) k ∙ zero_sum

or_none : (a b : Bool) → (a || b) ≡ false → (a ≡ false) × (b ≡ false)
or_none true b h = absurd (cc)
or_none false b h = (refl, h)

dot_zero : (row : List ℚ) (rows : List (List ℚ)) (j : ℕ) → any_of_four (λ k. takes row k && takes (row_of rows k) j) ≡ false
    → exact_dot row (column_of rows j) ≡ nat 0
unfolding exact_dot
dot_zero row rows j h =
    let test = λ (k : ℕ). takes row k && takes (row_of rows k) j in
    let p = or_none (test 0 || test 1 || test 2) (test 3) h in
    let q = or_none (test 0 || test 1) (test 2) p.0 in
    let r = or_none (test 0) (test 1) q.0 in
    let none = λ (k : ℕ) (t : test k ≡ false). zero_product (fraction_in row k) (fraction_in (row_of rows k) j) (takes row k)
    (takes (row_of rows k) j) (taken_or_zero row k) (taken_or_zero (row_of rows k) j) t in
    sum_zero _ _ (sum_zero _ _ (sum_zero _ _ (sum_zero _ _ refl (none 0 r.0)) (none 1 r.1)) (none 2 q.1)) (none 3 p.1)

dot_taken : (row : List ℚ) (rows : List (List ℚ)) (j : ℕ) → not (equal_ℚ (exact_dot row (column_of rows j)) (nat 0)) ≡ true
    → any_of_four (λ k. takes row k && takes (row_of rows k) j) ≡ true
dot_taken row rows j h = (elim (any_of_four (λ k. takes row k && takes (row_of rows k) j)) as
    (λ t. any_of_four (λ k. takes row k && takes (row_of rows k) j) ≡ t → t ≡ true) [
      | true ↦ λ e. refl
      | false ↦ λ e. absurd (not_taken (sym (ap (λ x. not (equal_ℚ x (nat 0))) (dot_zero row rows j e)) ∙ h))
    ]) refl

row_taken : (row : List ℚ) (rows : List (List ℚ)) (j : ℕ) → j < 4 → takes (exact_row row rows) j ≡ true
    → any_of_four (λ k. takes row k && takes (row_of rows k) j) ≡ true
unfolding exact_row
row_taken row rows zero below h = dot_taken row rows 0 h
row_taken row rows (suc zero) below h = dot_taken row rows 1 h
row_taken row rows (suc (suc zero)) below h = dot_taken row rows 2 h
row_taken row rows (suc (suc (suc zero))) below h = dot_taken row rows 3 h
row_taken row rows (suc (suc (suc (suc j)))) below h = absurd (omega arith)

joined_part : (first second joined : List (List ℚ)) (p q : Op) (e f : ℕ) (a b : ℕ → ℕ → ℕ) (used : List Bool) → IsOver first p e a
    → IsOver second q f b
    → four (λ i. exact_row (row_of second i) first) ≡ joined → IsPart (used_before (Linear joined) used) (used_before p
    (used_before q used))
unfolding used_before
joined_part first second joined p q e f a b used over_a over_b is = record {
  each = λ j below t.
      any_found (λ i. is_used used i && takes (row_of joined i) j)
      (sym (get_or-four (λ l. any_of_four (λ i. is_used used i && takes (row_of joined i) l)) j false below) ∙ t)
      (λ i inside u.
      (let s = and_parts (is_used used i) (takes (row_of joined i) j) u in
      let row_is : row_of joined i ≡ exact_row (row_of second i) first =
      sym (ap (λ (rows : List (List ℚ)). row_of rows i) is) ∙ get_or-four (λ k. exact_row (row_of second k) first) i [] inside in
      any_found (λ k. takes (row_of second i) k && takes (row_of first k) j)
      (row_taken (row_of second i) first j below (sym (ap (λ r. takes r j) row_is) ∙ s.1))
      (λ k here v. (let z = and_parts (takes (row_of second i) k) (takes (row_of first k) j) v in
      over_a.uses (used_before q used) k j here below (over_b.uses used i k inside here s.0 z.0) z.1))));
}

-- ---- a Linear in the place of two maps
greatest_most : (g : ℕ → ℕ) (f k : ℕ) → ((i : ℕ) → i < 4 → g i * f ≤ k) → greatest_of_four g * f ≤ k
greatest_most g f k each = same (greatest_of_four g * f) k (greatest_scaled g (λ i. k) f each)
  where
    same : (a k : ℕ) → a ≤ max (max k k) (max k k) → a ≤ k
    same a k h = omega (arith, h)

if_most : (b : Bool) (m f k : ℕ) → (b ≡ true → m * f ≤ k) → (if b then m else 0) * f ≤ k
if_most true m f k h = h refl
if_most false m f k h = omega arith

max_most : (a b f k : ℕ) → a * f ≤ k → b * f ≤ k → max a b * f ≤ k
max_most a b f k h l = same (max a b * f) k (max_scaled a b f k k h l)
  where
    same : (a k : ℕ) → a ≤ max k k → a ≤ k
    same a k h = omega (arith, h)

-- the peak of the two maps counts what that of the join does
record IsCounted (p q : Op) (e f : ℕ) (used before : List Bool) (s : Peaked) : Type 0 where
  peak : s.peak * (f * e) ≤ (fractions_after q used (fractions_after p before s)).peak
  sizes : (i : ℕ) → i < 4 → is_used used i ≡ true → size_in (fractions_width q (fractions_width p s.width)) i
      ≤ (fractions_after q used (fractions_after p before s)).peak

under_one : (a b c : ℕ) → a ≤ b → b ≤ c → a ≤ c
under_one a b c h k = omega (arith, h, k)

denominators : (d c g f e v t : ℕ) → c * g ≡ f * e → v ≡ d * e → t ≡ v * f → d * c * g ≡ t
denominators d c g f e v t is h k = omega (arith, ap (λ x. d * x) is, ap (λ x. x * f) h, k)

peaks : (k c g m n : ℕ) → c * g ≡ m → k * m ≤ n → k * c * g ≤ n
peaks k c g m n is h = omega (arith, ap (λ x. k * x) is, h)

exact_below : (first second : List (List ℚ)) (p q : Op) (e f : ℕ) (a b : ℕ → ℕ → ℕ) (used before : List Bool) (s : Peaked)
    → IsOver first p e a → IsOver second q f b → IsCounted p q e f used before s
    → Below used (peaked (width_of (s.width.denominator * rows_denominator (four (λ i. exact_row (row_of second i) first)))
    (λ k. row_size (rows_denominator (four (λ i. exact_row (row_of second i) first))) (row_of (four (λ i. exact_row
    (row_of second i) first)) k) s.width))
    (max (s.peak * rows_denominator (four (λ i. exact_row (row_of second i) first)))
    (greatest_of_four (λ k. if is_used used k then row_size (rows_denominator (four (λ i. exact_row (row_of second i) first)))
    (row_of (four (λ i. exact_row (row_of second i) first)) k) s.width else 0))))
    (fractions_after q used (fractions_after p before s))
exact_below first second p q e f a b used before s over_a over_b counted =
    let line = λ (i : ℕ). exact_row (row_of second i) first in
    let rows = four line in
    let c = rows_denominator rows in
    let m = f * e in
    let g = m / c in
    let w = s.width in
    let is : c * g ≡ m = turned c g m (div-mul_cancel c (rows_divide rows m (product_positive f e over_b.positive over_a.positive)
    (all_over first second p q e f a b over_a over_b))) in
    let most = (fractions_after q used (fractions_after p before s)).peak in
    let row_is = λ (i : ℕ) (below : i < 4). get_or-four line i [] below in
    let size = λ (i : ℕ) (below : i < 4).
    subst (λ (r : List ℚ). row_size c r w * g ≤ size_in (fractions_width q (fractions_width p w)) i) (sym (row_is i below))
    (exact_size first second p q e f a b over_a over_b c g is w i below
    (λ j. subst (λ (r : List ℚ). (fraction_in r j).denominator ∣ c) (row_is i below) (rows_each rows i j))) in
    record {
      ratio = g;
      denominator = denominators w.denominator c g f e (fractions_width p w).denominator
          (fractions_width q (fractions_width p w)).denominator is (over_a.denominator w) (over_b.denominator (fractions_width p w));
      sizes = λ i below u. omega (arith, ap (λ x. x * g) (get_or-four (λ k. row_size c (row_of rows k) w) i 0 below), size i below);
      peak = max_most (s.peak * c) _ g most (peaks s.peak c g m most is counted.peak)
          (greatest_most (λ k. if is_used used k then row_size c (row_of rows k) w else 0) g most
          (λ i below. if_most (is_used used i) (row_size c (row_of rows i) w) g most
          (λ u. under_one _ _ _ (size i below) (counted.sizes i below u))));
    }
  where
    turned : (c g m : ℕ) → g * c ≡ m → c * g ≡ m
    turned c g m h = omega (arith, h)

joined_below : (first second joined : List (List ℚ)) (p q : Op) (e f : ℕ) (a b : ℕ → ℕ → ℕ) (used before : List Bool) (s : Peaked)
    → IsOver first p e a → IsOver second q f b → four (λ i. exact_row (row_of second i) first) ≡ joined → IsCounted p q e f used before s
    → Below used (peaked (width_of (s.width.denominator * rows_denominator joined) (λ k. row_size (rows_denominator joined)
    (row_of joined k) s.width))
    (max (s.peak * rows_denominator joined) (greatest_of_four (λ k. if is_used used k then row_size (rows_denominator joined)
    (row_of joined k) s.width else 0))))
    (fractions_after q used (fractions_after p before s))
joined_below first second joined p q e f a b used before s over_a over_b is counted =
    subst (λ (rows : List (List ℚ)). Below used (peaked (width_of (s.width.denominator * rows_denominator rows)
    (λ k. row_size (rows_denominator rows) (row_of rows k) s.width))
    (max (s.peak * rows_denominator rows) (greatest_of_four (λ k. if is_used used k then row_size (rows_denominator rows)
    (row_of rows k) s.width else 0))))
    (fractions_after q used (fractions_after p before s))) is (exact_below first second p q e f a b used before s over_a over_b counted)

linear_is : (rows : List (List ℚ)) (used : List Bool) (s : Peaked) → fractions_after (Linear rows) used s
    ≡ peaked (width_of (s.width.denominator * rows_denominator rows) (λ k. row_size (rows_denominator rows) (row_of rows k) s.width))
    (max (s.peak * rows_denominator rows) (greatest_of_four (λ k. if is_used used k then row_size (rows_denominator rows)
    (row_of rows k) s.width else 0)))
unfolding fractions_width fractions_peak
linear_is rows used s = refl

maps_joined : (stage : Stage) (first second joined : List (List ℚ)) (p q : Op) (e f : ℕ) (a b : ℕ → ℕ
    → ℕ) (rest : List Op) (change : Change)
    → IsOver first p e a → IsOver second q f b → joined_rows first second ≡ Some joined
    → ((s : Peaked) → IsCounted p q e f (used_from rest) (used_before q (used_from rest)) s) → taking 2 (Some (Linear joined)) ≡ Some change
    → Eases stage (p ∷ q ∷ rest) (changed (p ∷ q ∷ rest) change)
unfolding stage_after
maps_joined stage first second joined p q e f a b rest change over_a over_b h counted is =
    let used = used_from rest in
    let exact = joined_exact first second joined h in
    by_change stage (p ∷ q ∷ rest) _ change is
    (two_fractions stage p q (Linear joined) rest refl (over_a.stays stage) (over_b.stays stage)
    (λ typed. joined_part first second joined p q e f a b used over_a over_b exact)
    (λ s typed positive. subst (λ (t : Peaked). Below used t (fractions_after q used (fractions_after p (used_before q used) s)))
    (sym (linear_is joined used s))
    (joined_below first second joined p q e f a b used (used_before q used) s over_a over_b exact (counted s))))

-- ---- what the peak of two maps counts
used_size : (b : Bool) (n g : ℕ) → b ≡ true → (if b then n else 0) ≤ g → n ≤ g
used_size true n g h le = le
used_size false n g h le = absurd (cc)

rows_counted : (rows : List (List ℚ)) (used : List Bool) (s : Peaked) (i : ℕ) → i < 4 → is_used used i ≡ true
    → size_in (fractions_width (Linear rows) s.width) i ≤ (fractions_after (Linear rows) used s).peak
unfolding fractions_width fractions_peak
rows_counted rows used s i below u =
    let e = rows_denominator rows in
    above _ (row_size e (row_of rows i) s.width) _ (s.peak * e) (get_or-four (λ k. row_size e (row_of rows k) s.width) i 0 below)
    (used_size (is_used used i) (row_size e (row_of rows i) s.width) _ u
    (greatest_at (λ k. if is_used used k then row_size e (row_of rows k) s.width else 0) i below))
  where
    above : (a b c k : ℕ) → a ≡ b → b ≤ c → a ≤ max k c
    above a b c k is h = omega (arith, is, h)

scale_linear : (x : ℚ) (rows : List (List ℚ)) (used before : List Bool) (s : Peaked)
    → IsCounted (Scale x) (Linear rows) x.denominator (rows_denominator rows) used before s
unfolding fractions_peak
scale_linear x rows used before s = record {
  peak = counted s.peak (unsigned_abs x.numerator) x.denominator (rows_denominator rows) _;
  sizes = rows_counted rows used (fractions_after (Scale x) before s);
}
  where
    counted : (k n d f g : ℕ) → k * (f * d) ≤ max (k * max n d * f) g
    counted k n d f g =
        let m : d ≤ max n d = omega arith in
        omega (arith, mul-le-mul_left (k * f) m)

linear_linear : (first rows : List (List ℚ)) (used before : List Bool) (s : Peaked)
    → IsCounted (Linear first) (Linear rows) (rows_denominator first) (rows_denominator rows) used before s
unfolding fractions_peak
linear_linear first rows used before s = record {
  peak = counted s.peak (rows_denominator first) (rows_denominator rows) _ _;
  sizes = rows_counted rows used (fractions_after (Linear first) before s);
}
  where
    counted : (k e f g h : ℕ) → k * (f * e) ≤ max (max (k * e) g * f) h
    counted k e f g h =
        let m : k * e ≤ max (k * e) g = omega arith in
        omega (arith, mul-le-mul_right f m)

linear_scale : (first : List (List ℚ)) (x : ℚ) (used : List Bool) (s : Peaked)
    → IsCounted (Linear first) (Scale x) (rows_denominator first) x.denominator used used s
unfolding fractions_peak fractions_width
linear_scale first x used s = record {
  peak = counted s.peak (unsigned_abs x.numerator) x.denominator (rows_denominator first) _;
  sizes = λ i below u. sized _ (size_in (fractions_width (Linear first) s.width) i) (unsigned_abs x.numerator) x.denominator _
      (get_or-four (λ k. size_in (fractions_width (Linear first) s.width) k * unsigned_abs x.numerator) i 0 below)
      (rows_counted first used s i below u);
}
  where
    counted : (k n d e g : ℕ) → k * (d * e) ≤ max (k * e) g * max n d
    counted k n d e g =
        let m : k * e ≤ max (k * e) g = omega arith in
        let o : d ≤ max n d = omega arith in
        omega (arith, mul-le-mul m o)

    sized : (a b n d k : ℕ) → a ≡ b * n → b ≤ k → a ≤ k * max n d
    sized a b n d k is h =
        let o : n ≤ max n d = omega arith in
        omega (arith, is, mul-le-mul h o)

-- ---- two scales
scales_below : (x y z : ℚ) (used before : List Bool) (s : Peaked) → y *ℚ x ≡ z
    → Below used (fractions_after (Scale z) used s) (fractions_after (Scale y) used (fractions_after (Scale x) before s))
unfolding fractions_width fractions_peak
scales_below x y z used before s is =
    let h = subst (λ (c : ℚ). HasBound c (bound (y.denominator * x.denominator) (unsigned_abs y.numerator * unsigned_abs x.numerator))) is
    (product_bounded y x (bound_of y) (bound_of x) (itself_bound y) (itself_bound x)) in
    let m = y.denominator * x.denominator in
    let g = m / z.denominator in
    let whole : g * z.denominator ≡ m = div-mul_cancel z.denominator (bound_divides z m _ h) in
    let most = bound_size z m _ h in
    below_of used g (s.width.denominator * z.denominator) (s.width.denominator * x.denominator * y.denominator)
    (λ i. size_in s.width i * unsigned_abs z.numerator)
    (λ i. size_in (width_of (s.width.denominator * x.denominator)
    (λ k. size_in s.width k * unsigned_abs x.numerator)) i * unsigned_abs y.numerator) _ _
    (same s.width.denominator z.denominator x.denominator y.denominator g whole)
    (λ i below u. sized (size_in s.width i) (unsigned_abs z.numerator) g (unsigned_abs x.numerator) (unsigned_abs y.numerator) _ most
    (get_or-four (λ k. size_in s.width k * unsigned_abs x.numerator) i 0 below))
    (peaked_most s.peak (unsigned_abs z.numerator) z.denominator g (unsigned_abs x.numerator) x.denominator (unsigned_abs y.numerator)
    y.denominator most whole)
  where
    same : (d c p q g : ℕ) → g * c ≡ q * p → d * c * g ≡ d * p * q
    same d c p q g h = omega (arith, ap (λ k. d * k) h)

    sized : (n a g p q l : ℕ) → a * g ≤ q * p → l ≡ n * p → n * a * g ≤ l * q
    sized n a g p q l h e = omega (arith, mul-le-mul_left n h, ap (λ k. k * q) e)

    peaked_most : (k a c g n d m e : ℕ) → a * g ≤ m * n → g * c ≡ e * d → k * max a c * g ≤ k * max n d * max m e
    peaked_most k a c g n d m e h is =
        let n1 : n ≤ max n d = omega arith in
        let d1 : d ≤ max n d = omega arith in
        let m1 : m ≤ max m e = omega arith in
        let e1 : e ≤ max m e = omega arith in
        let one : a * g ≤ max n d * max m e = omega (arith, h, mul-le-mul n1 m1) in
        let two : c * g ≤ max n d * max m e = omega (arith, is, mul-le-mul d1 e1) in
        let both : max a c * g ≤ max n d * max m e = max_most a c g (max n d * max m e) one two in
        omega (arith, mul-le-mul_left k both)

scales_joined : (stage : Stage) (x y z : ℚ) (rest : List Op) (change : Change) → checked_product y x ≡ Some z
    → taking 2 (Some (Scale z)) ≡ Some change → Eases stage (Scale x ∷ Scale y ∷ rest) (changed (Scale x ∷ Scale y ∷ rest) change)
unfolding stage_after used_before
scales_joined stage x y z rest change product is =
    by_change stage (Scale x ∷ Scale y ∷ rest) _ change is
    (two_fractions stage (Scale x) (Scale y) (Scale z) rest refl refl refl (λ typed. part_itself (used_from rest))
    (λ s typed p. scales_below x y z (used_from rest) (used_from rest) s (checked_product-exact y x z product)))

scale_used : (x : ℚ) (used : List Bool) → used_before (Scale x) used ≡ used
unfolding used_before
scale_used x used = refl

pub join_maps_easing : IsEasing (λ stage ranges ops. join_maps ops)
unfolding join_maps
join_maps_easing stage ranges (Scale a ∷ Scale b ∷ rest) change is =
    option_and_then_some _ (checked_product b a) change is (λ c product same. scales_joined stage a b c rest change product same)
join_maps_easing stage ranges (Scale a ∷ Linear second ∷ rest) change is =
    option_and_then_some _ (joined_rows (diagonal a) second) change is (λ joined rows same.
    maps_joined stage (diagonal a) second joined (Scale a) (Linear second) a.denominator (rows_denominator second) (scale_size a)
    (λ i j. size_over (rows_denominator second) (fraction_in (row_of second i) j)) rest change (scale_over a) (linear_over second) rows
    (scale_linear a second (used_from rest) (used_before (Linear second) (used_from rest))) same)
join_maps_easing stage ranges (Linear first ∷ Scale b ∷ rest) change is =
    option_and_then_some _ (joined_rows first (diagonal b)) change is (λ joined rows same.
    maps_joined stage first (diagonal b) joined (Linear first) (Scale b) (rows_denominator first) b.denominator
    (λ i j. size_over (rows_denominator first) (fraction_in (row_of first i) j)) (scale_size b) rest change (linear_over first)
    (scale_over b) rows
    (λ s. subst (λ (u : List Bool). IsCounted (Linear first) (Scale b) (rows_denominator first) b.denominator (used_from rest) u s)
    (sym (scale_used b (used_from rest))) (linear_scale first b (used_from rest) s)) same)
join_maps_easing stage ranges (Linear first ∷ Linear second ∷ rest) change is =
    option_and_then_some _ (joined_rows first second) change is (λ joined rows same.
    maps_joined stage first second joined (Linear first) (Linear second) (rows_denominator first) (rows_denominator second)
    (λ i j. size_over (rows_denominator first) (fraction_in (row_of first i) j))
    (λ i j. size_over (rows_denominator second) (fraction_in (row_of second i) j)) rest change (linear_over first) (linear_over second) rows
    (linear_linear first second (used_from rest) (used_before (Linear second) (used_from rest))) same)
join_maps_easing stage ranges _ change is = absurd (none-some change is)
