-- One state that is not above another, on the used values; and each operation keeps it so.
use Rattle.std.proofs.Common.{◌≡◌, ℕ, ◌+◌, ◌-◌, ◌*◌, ◌/◌, ◌^◌, ◌<◌, ◌≤◌, Bool, true, false, not, ◌&&◌, if◌then◌else◌, List}
use Rattle.std.proofs.Common.{All, nat_eq, nat_lt, eq-eqb, ltb-true, max, subst, refl, ◌∙◌, ap, arith}
use Rattle.std.specs.Prelude.{Option, Some, None, slice_index, unsigned_abs}
use Rattle.std.proofs.lemmas.Bool.{and_from}
use Rattle.std.proofs.Math.Nat.{div-mul_cancel, dvd-mul_right, mul-le-mul_right, mul-le-mul_left, zero-mul}
use Rattle.std.proofs.lemmas.Nat.Gcd.{dvd_refl}
use Prim.Native.Nat.{◌∣◌}
use native.Mathlib.Nat.{eq_of_mul-eq-mul_right}
use Rattle.frac_math.specs.Fraction.{ℚ, nat, equal_ℚ}
use Rattle.frac_math.proofs.FractionRing.{equal_is, product_positive}
use Rattle.frac_math.proofs.DitherLaws.{index_number_below}
use Rattle.op_list.specs.declared.types.Stage.{Stage}
use Rattle.op_list.specs.declared.op.Op.{Op}
use Rattle.op_list.specs.declared.op.Op.TheVariants.{Read, Write, SwapBytes, Unpack, Pack, Clear, LeftShift, RightShift, Swizzle}
use Rattle.op_list.specs.declared.op.Op.TheVariants.{Convert, Dither, Linear, Scale, Min, Max}
use Rattle.op_list.specs.Types.{bits_at, is_rational}
use Rattle.op_list.specs.Typing.{may_follow, are_good, stage_after}
use Rattle.op_list.specs.Values.{fraction_in, entry}
use Rattle.op_list.specs.Apply.{row_of}
use Rattle.op_list.proofs.Applied.{swizzle_lanes, whole_not_rational}
use Rattle.op_list.proofs.Four.{get_or-four}
use Rattle.op_range.specs.declared.width.Width.{Width}
use Rattle.op_range.specs.FractionBounds.{factor}
use Rattle.op_range.specs.Used.{is_used, any_of_four, is_missing, takes, used_before}
use Rattle.op_range.specs.Width.{rows_denominator, entries_denominator, size_over, width_of, size_in, term_size, row_size}
use Rattle.op_range.specs.Width.{cleared_size, limited_size, fractions_width, whole_width, width_after}
use Rattle.op_range.proofs.FractionBounds.{factor_positive}
use Rattle.op_range.proofs.AnyOfFour.{any_from}
use Rattle.op_range.proofs.UsedSteps.{index_below}
use Rattle.op_opt.specs.Peak.{Peaked, greatest_of_four, given_size, fractions_peak, peaked_after}
use Rattle.op_range.proofs.Multiples.{divides_on, least_multiple, multiple_right}

-- ---- one state not above another
-- what is used after one is used after the other
pub record IsPart (less used : List Bool) : Type 0 where
  pub each : (i : ℕ) → i < 4 → is_used less i ≡ true → is_used used i ≡ true

-- over a denominator that is a multiple, the used values and the peak are no greater
pub record Below (used : List Bool) (s t : Peaked) : Type 0 where
  pub ratio : ℕ
  pub denominator : s.width.denominator * ratio ≡ t.width.denominator
  pub sizes : (i : ℕ) → i < 4 → is_used used i ≡ true → size_in s.width i * ratio ≤ size_in t.width i
  pub peak : s.peak * ratio ≤ t.peak

abbrev pub peaked : Width → ℕ → Peaked
peaked w k = record { width = w; peak = k }

pub below_of : (used : List Bool) (f d e : ℕ) (g h : ℕ → ℕ) (j k : ℕ) → d * f ≡ e
    → ((i : ℕ) → i < 4 → is_used used i ≡ true → g i * f ≤ h i) → j * f ≤ k
    → Below used (peaked (width_of d g) j) (peaked (width_of e h) k)
below_of used f d e g h j k is each most = record {
  ratio = f;
  denominator = is;
  sizes = λ i below u.
      (let left = get_or-four g i 0 below in let right = get_or-four h i 0 below in let le = each i below u in
      omega (arith, ap (λ x. x * f) left, le, right));
  peak = most;
}

pub below_itself : (used : List Bool) (s : Peaked) → Below used s s
below_itself used s = record { ratio = 1; denominator = omega arith; sizes = λ i below u. omega arith; peak = omega arith }

-- ---- numbers
pub times : (a f b c : ℕ) → a * f ≤ b → a * c * f ≤ b * c
times a f b c h = omega (arith, mul-le-mul_right c h)

pub times_same : (a f b c : ℕ) → a * f ≡ b → a * c * f ≡ b * c
times_same a f b c h = omega (arith, ap (λ x. x * c) h)

pub const_times : (c d f e : ℕ) → d * f ≡ e → c * d * f ≤ c * e
const_times c d f e h = omega (arith, ap (λ x. c * x) h)

not_less : (a b : ℕ) → nat_lt a b ≡ false → b ≤ a
not_less a b t = grind (arith, t)

pub max_scaled : (a b f m n : ℕ) → a * f ≤ m → b * f ≤ n → max a b * f ≤ max m n
max_scaled a b f m n h k = (elim (nat_lt a b) as (λ t. nat_lt a b ≡ t → max a b * f ≤ max m n) [
  | true ↦ λ t. (let l : a < b = ltb-true a b t in let e : max a b ≡ b = omega arith in omega (arith, ap (λ x. x * f) e, h, k))
  | false ↦ λ t. (let l : b ≤ a = not_less a b t in let e : max a b ≡ a = omega arith in omega (arith, ap (λ x. x * f) e, h, k))
]) refl

pub greatest_scaled : (g h : ℕ → ℕ) (f : ℕ) → ((i : ℕ) → i < 4 → g i * f ≤ h i) → greatest_of_four g * f ≤ greatest_of_four h
greatest_scaled g h f each =
    max_scaled (max (g 0) (g 1)) (max (g 2) (g 3)) f (max (h 0) (h 1)) (max (h 2) (h 3))
    (max_scaled (g 0) (g 1) f (h 0) (h 1) (each 0 (omega arith)) (each 1 (omega arith)))
    (max_scaled (g 2) (g 3) f (h 2) (h 3) (each 2 (omega arith)) (each 3 (omega arith)))

pub if_both : (a b : Bool) (m n f : ℕ) → (a ≡ true → b ≡ true) → (b ≡ true → m * f ≤ n) → (if a then m else 0) * f ≤ (if b then n else 0)
if_both false b m n f part h = omega arith
if_both true true m n f part h = h refl
if_both true false m n f part h = absurd (let no = part refl in cc)

-- ---- Linear
pub taken_or_zero : (row : List ℚ) (j : ℕ) → takes row j ≡ false → fraction_in row j ≡ nat 0
taken_or_zero row j h = equal_is (fraction_in row j) (nat 0) (from_false (equal_ℚ (fraction_in row j) (nat 0)) h)
  where
    from_false : (b : Bool) → not b ≡ false → b ≡ true
    from_false true e = refl
    from_false false e = absurd (cc)

pub no_size : (e : ℕ) (x : ℚ) → x ≡ nat 0 → size_over e x ≡ 0
no_size e x h = ap (size_over e) h ∙ zero-mul (e / 1)

term_zero : (c n f m : ℕ) → c ≡ 0 → c * n * f ≤ c * m
term_zero c n f m h = omega (arith, ap (λ x. x * n * f) h)

term_some : (c n f m : ℕ) → n * f ≤ m → c * n * f ≤ c * m
term_some c n f m h = omega (arith, mul-le-mul_left c h)

pub term_below : (e : ℕ) (row : List ℚ) (v w : Width) (f j : ℕ) → (takes row j ≡ true → size_in v j * f ≤ size_in w j)
    → term_size e row v j * f ≤ term_size e row w j
term_below e row v w f j h = (elim (takes row j) as (λ t. takes row j ≡ t → term_size e row v j * f ≤ term_size e row w j) [
  | true ↦ λ t. term_some (size_over e (fraction_in row j)) (size_in v j) f (size_in w j) (h t)
  | false ↦ λ t. term_zero (size_over e (fraction_in row j)) (size_in v j) f (size_in w j) (no_size e (fraction_in row j)
      (taken_or_zero row j t))
]) refl

pub sum_scaled : (a b c d x p q r s y f : ℕ) → a * f ≤ p → b * f ≤ q → c * f ≤ r → d * f ≤ s → x * f ≤ y
    → (a + b + c + d + x) * f ≤ p + q + r + s + y
sum_scaled a b c d x p q r s y f h0 h1 h2 h3 h4 = omega (arith, h0, h1, h2, h3, h4)

pub row_below : (e : ℕ) (row : List ℚ) (v w : Width) (f : ℕ) → v.denominator * f ≡ w.denominator
    → ((j : ℕ) → j < 4 → takes row j ≡ true → size_in v j * f ≤ size_in w j) → row_size e row v * f ≤ row_size e row w
row_below e row v w f is each =
    let term = λ (j : ℕ) (below : j < 4). term_below e row v w f j (each j below) in
    sum_scaled _ _ _ _ (size_over e (fraction_in row 4) * v.denominator) _ _ _ _ (size_over e (fraction_in row 4) * w.denominator) f
    (term 0 (omega arith)) (term 1 (omega arith)) (term 2 (omega arith)) (term 3 (omega arith))
    (const_times (size_over e (fraction_in row 4)) v.denominator f w.denominator is)

-- a value that a used row takes is used before
pub taken_used : (rows : List (List ℚ)) (used : List Bool) (i j : ℕ) → i < 4 → j < 4 → is_used used i ≡ true
    → takes (row_of rows i) j ≡ true
    → is_used (used_before (Linear rows) used) j ≡ true
unfolding used_before
taken_used rows used i j below inside u t =
    get_or-four (λ l. any_of_four (λ k. is_used used k && takes (row_of rows k) l)) j false inside
    ∙ any_from (λ k. is_used used k && takes (row_of rows k) j) i below (and_from _ _ u t)

abbrev pub fractions_after : Op → List Bool → Peaked → Peaked
fractions_after op used s = peaked (fractions_width op s.width) (fractions_peak op used s)

linear_below : (rows : List (List ℚ)) (less used : List Bool) (s t : Peaked) → IsPart less used
    → Below (used_before (Linear rows) used) s t → Below used (fractions_after (Linear rows) less s) (fractions_after (Linear rows) used t)
unfolding fractions_width fractions_peak
linear_below rows less used s t part b =
    let e = rows_denominator rows in
    let f = b.ratio in
    let row = λ (i : ℕ) (below : i < 4) (u : is_used used i ≡ true).
    row_below e (row_of rows i) s.width t.width f b.denominator
    (λ j inside taken. b.sizes j inside (taken_used rows used i j below inside u taken)) in
    below_of used f (s.width.denominator * e) (t.width.denominator * e) (λ i. row_size e (row_of rows i) s.width)
    (λ i. row_size e (row_of rows i) t.width) _ _
    (times_same s.width.denominator f t.width.denominator e b.denominator) row
    (max_scaled (s.peak * e) _ f (t.peak * e) _ (times s.peak f t.peak e b.peak)
    (greatest_scaled (λ i. if is_used less i then row_size e (row_of rows i) s.width else 0)
    (λ i. if is_used used i then row_size e (row_of rows i) t.width else 0) f
    (λ i below. if_both (is_used less i) (is_used used i) _ _ f (part.each i below) (row i below))))

-- ---- Scale
scale_below : (by : ℚ) (less used : List Bool) (s t : Peaked) → Below used s t
    → Below used (fractions_after (Scale by) less s) (fractions_after (Scale by) used t)
unfolding fractions_width fractions_peak
scale_below by less used s t b =
    below_of used b.ratio (s.width.denominator * by.denominator) (t.width.denominator * by.denominator)
    (λ i. size_in s.width i * unsigned_abs by.numerator) (λ i. size_in t.width i * unsigned_abs by.numerator) _ _
    (times_same s.width.denominator b.ratio t.width.denominator by.denominator b.denominator)
    (λ i below u. times (size_in s.width i) b.ratio (size_in t.width i) (unsigned_abs by.numerator) (b.sizes i below u))
    (times s.peak b.ratio t.peak (max (unsigned_abs by.numerator) by.denominator) b.peak)

-- ---- Dither
pub record Ratio (d e p q f : ℕ) : Type 0 where
  pub ratio : ℕ
  pub whole : d * factor d p * ratio ≡ e * factor e q
  pub factors : factor d p * ratio ≡ f * factor e q

ratio_of : (d e p q f : ℕ) → 0 < d → 0 < e → 0 < p → 0 < q → p ∣ q → d * f ≡ e → Ratio d e p q f
ratio_of d e p q f some more positive other into_q is =
    let total = e * factor e q in
    let regroup : d * (f * factor e q) ≡ total = omega (arith, ap (λ x. x * factor e q) is) in
    let over : d ∣ total = subst (λ (k : ℕ). d ∣ k) regroup (dvd-mul_right d (f * factor e q)) in
    let into = least_multiple d p total some positive (product_positive e (factor e q) more (factor_positive e q other)) over
    (divides_on p q total into_q (multiple_right e q)) in
    let g = total / (d * factor d p) in
    let back : g * (d * factor d p) ≡ total = div-mul_cancel (d * factor d p) into in
    record {
      ratio = g;
      whole = omega (arith, back);
      factors = eq_of_mul-eq-mul_right d some (factor d p * g) (f * factor e q) (omega (arith, back, regroup));
    }

dithered : (n d h g f m e l : ℕ) → n * f ≤ m → d * h * g ≡ e * l → h * g ≡ f * l → (n * h + d * h) * g ≤ m * l + e * l
dithered n d h g f m e l le whole factors = omega (arith, ap (λ x. n * x) factors, mul-le-mul_right l le, whole)

power_positive : (k : ℕ) → 0 < 2 * 4 ^ k
power_positive k = omega (arith, index_number_below k 0 0)

-- also where the places of the first are among those of the second
pub dithers_below : (k l : ℕ) (less used : List Bool) (s t : Peaked) → 2 * 4 ^ k ∣ 2 * 4 ^ l → 0 < s.width.denominator
    → 0 < t.width.denominator → Below used s t → Below used (fractions_after (Dither k) less s) (fractions_after (Dither l) used t)
unfolding fractions_width fractions_peak
dithers_below k l less used s t places some more b =
    let p = 2 * 4 ^ k in
    let q = 2 * 4 ^ l in
    let d = s.width.denominator in
    let e = t.width.denominator in
    let r = ratio_of d e p q b.ratio some more (power_positive k) (power_positive l) places b.denominator in
    below_of used r.ratio (d * factor d p) (e * factor e q) (λ i. size_in s.width i * factor d p + d * factor d p)
    (λ i. size_in t.width i * factor e q + e * factor e q) _ _ r.whole
    (λ i below u. dithered (size_in s.width i) d (factor d p) r.ratio b.ratio (size_in t.width i) e (factor e q)
    (b.sizes i below u) r.whole r.factors)
    (dithered s.peak d (factor d p) r.ratio b.ratio t.peak e (factor e q) b.peak r.whole r.factors)

-- ---- entries
pub cleared_below : (c d f e : ℕ) (given : Option ℚ) (n m : ℕ) → d * f ≡ e → (is_missing given ≡ true → n * f ≤ m)
    → cleared_size c d given n * f ≤ cleared_size c e given m
cleared_below c d f e None n m is h = times n f m c (h refl)
cleared_below c d f e (Some x) n m is h = const_times (size_over c x) d f e is

pub limited_below : (c d f e : ℕ) (given : Option ℚ) (n m : ℕ) → d * f ≡ e → n * f ≤ m
    → limited_size c d given n * f ≤ limited_size c e given m
limited_below c d f e None n m is h = times n f m c h
limited_below c d f e (Some x) n m is h = max_scaled (n * c) (size_over c x * d) f (m * c) (size_over c x * e) (times n f m c h)
    (const_times (size_over c x) d f e is)

given_below : (c d f e : ℕ) (given : Option ℚ) → d * f ≡ e → given_size c d given * f ≤ given_size c e given
given_below c d f e None is = omega arith
given_below c d f e (Some x) is = const_times (size_over c x) d f e is

entries_below : (entries : List (Option ℚ)) (used : List Bool) (s t : Peaked) (g h : ℕ → ℕ) (f : ℕ)
    → s.width.denominator * f ≡ t.width.denominator → s.peak * f ≤ t.peak
    → ((i : ℕ) → i < 4 → is_used used i ≡ true → g i * f ≤ h i)
    → Below used (peaked (width_of (s.width.denominator * entries_denominator entries) g) (max (s.peak * entries_denominator entries)
    (greatest_of_four (λ i. given_size (entries_denominator entries) s.width.denominator (entry entries i)))))
    (peaked (width_of (t.width.denominator * entries_denominator entries) h) (max (t.peak * entries_denominator entries)
    (greatest_of_four (λ i. given_size (entries_denominator entries) t.width.denominator (entry entries i)))))
entries_below entries used s t g h f is most each =
    let c = entries_denominator entries in
    below_of used f (s.width.denominator * c) (t.width.denominator * c) g h _ _
    (times_same s.width.denominator f t.width.denominator c is) each
    (max_scaled (s.peak * c) _ f (t.peak * c) _ (times s.peak f t.peak c most)
    (greatest_scaled (λ i. given_size c s.width.denominator (entry entries i)) (λ i. given_size c t.width.denominator (entry entries i)) f
    (λ i below. given_below c s.width.denominator f t.width.denominator (entry entries i) is)))

clear_below : (entries : List (Option ℚ)) (less used : List Bool) (s t : Peaked) → Below (used_before (Clear entries) used) s t
    → Below used (fractions_after (Clear entries) less s) (fractions_after (Clear entries) used t)
unfolding fractions_width fractions_peak used_before
clear_below entries less used s t b =
    let c = entries_denominator entries in
    entries_below entries used s t (λ i. cleared_size c s.width.denominator (entry entries i) (size_in s.width i))
    (λ i. cleared_size c t.width.denominator (entry entries i) (size_in t.width i)) b.ratio b.denominator b.peak
    (λ i below u. cleared_below c s.width.denominator b.ratio t.width.denominator (entry entries i) (size_in s.width i) (size_in t.width i)
    b.denominator (λ missing. b.sizes i below (get_or-four (λ k. is_used used k && is_missing (entry entries k)) i false below
    ∙ and_from _ _ u missing)))

min_below : (limits : List (Option ℚ)) (less used : List Bool) (s t : Peaked) → Below used s t
    → Below used (fractions_after (Min limits) less s) (fractions_after (Min limits) used t)
unfolding fractions_width fractions_peak
min_below limits less used s t b =
    let c = entries_denominator limits in
    entries_below limits used s t (λ i. limited_size c s.width.denominator (entry limits i) (size_in s.width i))
    (λ i. limited_size c t.width.denominator (entry limits i) (size_in t.width i)) b.ratio b.denominator b.peak
    (λ i below u. limited_below c s.width.denominator b.ratio t.width.denominator (entry limits i) (size_in s.width i) (size_in t.width i)
    b.denominator (b.sizes i below u))

max_below : (limits : List (Option ℚ)) (less used : List Bool) (s t : Peaked) → Below used s t
    → Below used (fractions_after (Max limits) less s) (fractions_after (Max limits) used t)
unfolding fractions_width fractions_peak
max_below limits less used s t b =
    let c = entries_denominator limits in
    entries_below limits used s t (λ i. limited_size c s.width.denominator (entry limits i) (size_in s.width i))
    (λ i. limited_size c t.width.denominator (entry limits i) (size_in t.width i)) b.ratio b.denominator b.peak
    (λ i below u. limited_below c s.width.denominator b.ratio t.width.denominator (entry limits i) (size_in s.width i) (size_in t.width i)
    b.denominator (b.sizes i below u))

-- ---- Swizzle
swizzle_below : (from : List ℕ) (less used : List Bool) (s t : Peaked) → All (λ i. i < 4) from → Below (used_before (Swizzle from) used) s t
    → Below used (fractions_after (Swizzle from) less s) (fractions_after (Swizzle from) used t)
unfolding fractions_width fractions_peak used_before
swizzle_below from less used s t good b =
    below_of used b.ratio s.width.denominator t.width.denominator (λ i. size_in s.width (slice_index from i))
    (λ i. size_in t.width (slice_index from i)) _ _ b.denominator
    (λ i below u. b.sizes (slice_index from i) (index_below from good i)
    (get_or-four (λ l. any_of_four (λ j. is_used used j && nat_eq (slice_index from j) l)) (slice_index from i) false
    (index_below from good i)
    ∙ any_from (λ j. is_used used j && nat_eq (slice_index from j) (slice_index from i)) i below
    (and_from _ _ u (eq-eqb (slice_index from i) (slice_index from i) refl)))) b.peak

-- ---- each operation
ops_below : (stage : Stage) (op : Op) (less used : List Bool) (s t : Peaked) → is_rational stage ≡ true → may_follow stage op ≡ true
    → are_good stage op ≡ true → 0 < s.width.denominator → 0 < t.width.denominator → IsPart less used → Below (used_before op used) s t
    → is_rational (stage_after stage op) ≡ true → Below used (fractions_after op less s) (fractions_after op used t)
unfolding fractions_width fractions_peak used_before may_follow stage_after
ops_below stage (Read elem planes palette) less used s t r f g p q part b n = b
ops_below stage (Write elem planes) less used s t r f g p q part b n = absurd (cc)
ops_below stage SwapBytes less used s t r f g p q part b n = b
ops_below stage (Unpack widths) less used s t r f g p q part b n = absurd (let no = whole_not_rational stage f in cc)
ops_below stage (Pack widths) less used s t r f g p q part b n = absurd (let no = whole_not_rational stage f in cc)
ops_below stage (Clear entries) less used s t r f g p q part b n = clear_below entries less used s t b
ops_below stage (LeftShift k) less used s t r f g p q part b n = b
ops_below stage (RightShift k) less used s t r f g p q part b n = b
ops_below stage (Swizzle from) less used s t r f g p q part b n = swizzle_below from less used s t (swizzle_lanes stage from g) b
ops_below stage (Convert to expand) less used s t r f g p q part b n = b
ops_below stage (Dither k) less used s t r f g p q part b n = dithers_below k k less used s t (dvd_refl (2 * 4 ^ k)) p q b
ops_below stage (Linear rows) less used s t r f g p q part b n = linear_below rows less used s t part b
ops_below stage (Scale by) less used s t r f g p q part b n = scale_below by less used s t b
ops_below stage (Min limits) less used s t r f g p q part b n = min_below limits less used s t b
ops_below stage (Max limits) less used s t r f g p q part b n = max_below limits less used s t b

by_stage : (r : Bool) (used : List Bool) (v w other : Width) (j k l : ℕ) → (r ≡ true → Below used (peaked v j) (peaked w k))
    → Below used (peaked (if r then v else other) (if r then j else l)) (peaked (if r then w else other) (if r then k else l))
by_stage true used v w other j k l h = h refl
by_stage false used v w other j k l h = below_itself used (peaked other l)

pub step_below : (stage : Stage) (op : Op) (less used : List Bool) (s t : Peaked) → may_follow stage op ≡ true
    → are_good stage op ≡ true → 0 < s.width.denominator → 0 < t.width.denominator → IsPart less used
    → (is_rational stage ≡ true → Below (used_before op used) s t)
    → is_rational (stage_after stage op) ≡ true → Below used (peaked_after stage op less s) (peaked_after stage op used t)
unfolding peaked_after width_after
step_below stage op less used s t follows good p q part b next =
    by_stage (is_rational stage) used (fractions_width op s.width) (fractions_width op t.width) (whole_width (bits_at stage))
    (fractions_peak op less s) (fractions_peak op used t) (2 ^ bits_at stage - 1)
    (λ r. ops_below stage op less used s t r follows good p q part (b r) next)
