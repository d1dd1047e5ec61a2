-- Where the rows of values that are not used are the identity, no size is above the peak.
use Rattle.std.proofs.Common.{◌≡◌, ℕ, zero, suc, ◌+◌, ◌-◌, ◌*◌, ◌/◌, ◌^◌, ◌<◌, ◌≤◌, Bool, true, false, not, ◌&&◌, if◌then◌else◌, List, []}
use Rattle.std.proofs.Common.{◌∷◌}
use Rattle.std.proofs.Common.{◌++◌, max, refl, sym, ◌∙◌, ap, arith}
use Rattle.std.specs.Prelude.{Option, Some, None, slice_index, unsigned_abs}
use Rattle.std.specs.Option.{option_and_then}
use Rattle.std.proofs.lemmas.Option.{none-some}
use Rattle.std.proofs.lemmas.Bool.{and_from, and_parts}
use Rattle.std.proofs.Math.Nat.{mul-le-mul_right, mul-le-mul_left}
use Rattle.frac_math.specs.Fraction.{ℚ, nat}
use Rattle.frac_math.proofs.FractionRing.{equal_is}
use Rattle.op_list.specs.declared.types.Stage.{Stage}
use Rattle.op_list.specs.declared.types.Stage.TheVariants.{Start, Typed, Ended}
use Rattle.op_list.specs.declared.types.PixType.{PixType}
use Rattle.op_list.specs.declared.types.PixType.TheVariants.{U8, U16, U32, Rat}
use Rattle.op_list.specs.declared.op.Op.{Op}
use Rattle.op_list.specs.declared.op.Op.TheVariants.{Read, Write, SwapBytes, Unpack, Pack, Clear, LeftShift, RightShift, Swizzle}
use Rattle.op_list.specs.declared.op.Op.TheVariants.{Convert, Dither, Linear, Scale, Min, Max}
use Rattle.op_list.specs.Types.{bits_at, is_rational, is_typed, is_whole_type}
use Rattle.op_list.specs.Typing.{may_follow, are_good, stage_after, are_typed}
use Rattle.op_list.specs.Values.{fraction_in, entry}
use Rattle.op_list.specs.Apply.{row_of}
use Rattle.op_list.specs.Identity.{is_identity_row}
use Rattle.op_list.proofs.Applied.{swizzle_lanes}
use Rattle.op_list.proofs.Four.{get_or-four}
use Rattle.op_list.proofs.Typed.{typed_parts}
use Rattle.op_range.specs.declared.width.Width.{Width}
use Rattle.op_range.specs.FractionBounds.{factor}
use Rattle.op_range.specs.Used.{is_used, used_from}
use Rattle.op_range.specs.Width.{rows_denominator, entries_denominator, size_over, width_of, size_in, row_size, own_size}
use Rattle.op_range.specs.Width.{cleared_size, limited_size, fractions_width, whole_width, width_after, own_width_from}
use Rattle.op_range.proofs.UsedSteps.{index_below}
use Rattle.op_opt.specs.OfFour.{or_else, if_so, lowest}
use Rattle.op_opt.specs.ResetUnused.{reset_unused}
use Rattle.op_opt.specs.Peak.{Peaked, greatest_of_four, given_size, fractions_peak, peaked_after, peak_from}
use Rattle.op_opt.proofs.PeakSteps.{peaked, fractions_after, no_size}

-- ---- no size is above the peak
pub record IsCovered (s : Peaked) : Type 0 where
  pub denominator : s.width.denominator ≤ s.peak
  pub sizes : (i : ℕ) → i < 4 → size_in s.width i ≤ s.peak

covers_of : (d k : ℕ) (g : ℕ → ℕ) → d ≤ k → ((i : ℕ) → i < 4 → g i ≤ k) → IsCovered (peaked (width_of d g) k)
covers_of d k g h each = record { denominator = h; sizes = λ i below. omega (arith, get_or-four g i 0 below, each i below) }

pub greatest_at : (g : ℕ → ℕ) (i : ℕ) → i < 4 → g i ≤ greatest_of_four g
greatest_at g zero below = omega arith
greatest_at g (suc zero) below = omega arith
greatest_at g (suc (suc zero)) below = omega arith
greatest_at g (suc (suc (suc zero))) below = omega arith
greatest_at g (suc (suc (suc (suc i)))) below = absurd (omega arith)

-- ---- tidy operations
-- each row of a value that is not used after it is the identity
pub record IsTidy (rows : List (List ℚ)) (used : List Bool) : Type 0 where
  pub each : (i : ℕ) → i < 4 → is_used used i ≡ false → is_identity_row i (row_of rows i) ≡ true

none_lowest : (test : ℕ → Bool) (i : ℕ) → i < 4 → lowest test ≡ None → test i ≡ false
none_lowest test i below h =
    let a = both_none (if_so (test 0) 0) (or_else (if_so (test 1) 1) (or_else (if_so (test 2) 2) (if_so (test 3) 3))) h in
    let b = both_none (if_so (test 1) 1) (or_else (if_so (test 2) 2) (if_so (test 3) 3)) a.1 in
    let c = both_none (if_so (test 2) 2) (if_so (test 3) 3) b.1 in
    at_index i below (none_so (test 0) 0 a.0) (none_so (test 1) 1 b.0) (none_so (test 2) 2 c.0) (none_so (test 3) 3 c.1)
  where
    both_none : (a b : Option ℕ) → or_else a b ≡ None → (a ≡ None) × (b ≡ None)
    both_none None b e = (refl, e)
    both_none (Some x) b e = absurd (none-some x (sym e))

    none_so : (t : Bool) (k : ℕ) → if_so t k ≡ None → t ≡ false
    none_so true k e = absurd (none-some k (sym e))
    none_so false k e = refl

    at_index : (k : ℕ) → k < 4 → test 0 ≡ false → test 1 ≡ false → test 2 ≡ false → test 3 ≡ false → test k ≡ false
    at_index zero inside p q r s = p
    at_index (suc zero) inside p q r s = q
    at_index (suc (suc zero)) inside p q r s = r
    at_index (suc (suc (suc zero))) inside p q r s = s
    at_index (suc (suc (suc (suc k)))) inside p q r s = absurd (omega arith)

must_be : (a b : Bool) → (not a && not b) ≡ false → a ≡ false → b ≡ true
must_be true b h e = absurd (cc)
must_be false true h e = refl
must_be false false h e = absurd (cc)

and_then_none : {A B : Type 0} (f : A → Option B) (o : Option A) → ((x : A) → f x ≡ None → ⊥) → option_and_then f o ≡ None → o ≡ None
and_then_none f None never h = refl
and_then_none f (Some x) never h = absurd (never x h)

pub tidy_rows : (rows : List (List ℚ)) (rest : List Op) → reset_unused (Linear rows ∷ rest) ≡ None → IsTidy rows (used_from rest)
unfolding reset_unused
tidy_rows rows rest h =
    let test = λ (i : ℕ). not (is_used (used_from rest) i) && not (is_identity_row i (row_of rows i)) in
    let none : lowest test ≡ None = and_then_none _ (lowest test) (λ i e. none-some _ (sym e)) h in
    record {
      each = λ i below free. must_be (is_used (used_from rest) i) (is_identity_row i (row_of rows i))
          (none_lowest test i below none) free;
    }

-- ---- a row that is the identity
sum_at_most : (a b c d x p q r s n : ℕ) → a ≤ p → b ≤ q → c ≤ r → d ≤ s → x ≤ 0 → p + q + r + s ≤ n → a + b + c + d + x ≤ n
sum_at_most a b c d x p q r s n ha hb hc hd hx h = omega (arith, ha, hb, hc, hd, hx, h)

none_times : (c n : ℕ) → c ≡ 0 → c * n ≤ 0
none_times c n h = omega (arith, ap (λ x. x * n) h)

one_times : (e n k c : ℕ) → c ≡ e → n ≤ k → c * n ≤ k * e
one_times e n k c h le = omega (arith, ap (λ x. x * n) h, mul-le-mul_left e le)

pub one_size : (e : ℕ) (x : ℚ) → x ≡ nat 1 → size_over e x ≡ e
one_size e x h = ap (size_over e) h ∙ one
  where
    one : 1 * (e / 1) ≡ e
    one = omega arith

identity_size : (e : ℕ) (row : List ℚ) (w : Width) (k i : ℕ) → i < 4 → size_in w i ≤ k → is_identity_row i row ≡ true
    → row_size e row w ≤ k * e
unfolding is_identity_row
identity_size e row w k zero below le h =
    let p = and_parts _ _ h in let q = and_parts _ _ p.0 in let r = and_parts _ _ q.0 in let s = and_parts _ _ r.0 in
    let no = λ (j n : ℕ) (z : fraction_in row j ≡ nat 0). none_times (size_over e (fraction_in row j)) n (no_size e
    (fraction_in row j) z) in
    sum_at_most _ _ _ _ _ (k * e) 0 0 0 (k * e)
    (one_times e (size_in w 0) k (size_over e (fraction_in row 0)) (one_size e (fraction_in row 0) (equal_is (fraction_in row 0)
    (nat 1) s.0)) le)
    (no 1 (size_in w 1) (equal_is (fraction_in row 1) (nat 0) s.1)) (no 2 (size_in w 2) (equal_is (fraction_in row 2) (nat 0) r.1))
    (no 3 (size_in w 3) (equal_is (fraction_in row 3) (nat 0) q.1)) (no 4 w.denominator (equal_is (fraction_in row 4) (nat 0) p.1))
    (omega arith)
identity_size e row w k (suc zero) below le h =
    let p = and_parts _ _ h in let q = and_parts _ _ p.0 in let r = and_parts _ _ q.0 in let s = and_parts _ _ r.0 in
    let no = λ (j n : ℕ) (z : fraction_in row j ≡ nat 0). none_times (size_over e (fraction_in row j)) n (no_size e
    (fraction_in row j) z) in
    sum_at_most _ _ _ _ _ 0 (k * e) 0 0 (k * e)
    (no 0 (size_in w 0) (equal_is (fraction_in row 0) (nat 0) s.0))
    (one_times e (size_in w 1) k (size_over e (fraction_in row 1)) (one_size e (fraction_in row 1) (equal_is (fraction_in row 1)
    (nat 1) s.1)) le)
    (no 2 (size_in w 2) (equal_is (fraction_in row 2) (nat 0) r.1))
    (no 3 (size_in w 3) (equal_is (fraction_in row 3) (nat 0) q.1)) (no 4 w.denominator (equal_is (fraction_in row 4) (nat 0) p.1))
    (omega arith)
identity_size e row w k (suc (suc zero)) below le h =
    let p = and_parts _ _ h in let q = and_parts _ _ p.0 in let r = and_parts _ _ q.0 in let s = and_parts _ _ r.0 in
    let no = λ (j n : ℕ) (z : fraction_in row j ≡ nat 0). none_times (size_over e (fraction_in row j)) n (no_size e
    (fraction_in row j) z) in
    sum_at_most _ _ _ _ _ 0 0 (k * e) 0 (k * e)
    (no 0 (size_in w 0) (equal_is (fraction_in row 0) (nat 0) s.0)) (no 1 (size_in w 1) (equal_is (fraction_in row 1) (nat 0) s.1))
    (one_times e (size_in w 2) k (size_over e (fraction_in row 2)) (one_size e (fraction_in row 2) (equal_is (fraction_in row 2)
    (nat 1) r.1)) le)
    (no 3 (size_in w 3) (equal_is (fraction_in row 3) (nat 0) q.1)) (no 4 w.denominator (equal_is (fraction_in row 4) (nat 0) p.1))
    (omega arith)
identity_size e row w k (suc (suc (suc zero))) below le h =
    let p = and_parts _ _ h in let q = and_parts _ _ p.0 in let r = and_parts _ _ q.0 in let s = and_parts _ _ r.0 in
    let no = λ (j n : ℕ) (z : fraction_in row j ≡ nat 0). none_times (size_over e (fraction_in row j)) n (no_size e
    (fraction_in row j) z) in
    sum_at_most _ _ _ _ _ 0 0 0 (k * e) (k * e)
    (no 0 (size_in w 0) (equal_is (fraction_in row 0) (nat 0) s.0)) (no 1 (size_in w 1) (equal_is (fraction_in row 1) (nat 0) s.1))
    (no 2 (size_in w 2) (equal_is (fraction_in row 2) (nat 0) r.1))
    (one_times e (size_in w 3) k (size_over e (fraction_in row 3)) (one_size e (fraction_in row 3) (equal_is (fraction_in row 3)
    (nat 1) q.1)) le)
    (no 4 w.denominator (equal_is (fraction_in row 4) (nat 0) p.1)) (omega arith)
identity_size e row w k (suc (suc (suc (suc i)))) below le h = absurd (omega arith)

-- ---- each operation
used_at : (b : Bool) (n g : ℕ) → b ≡ true → (if b then n else 0) ≤ g → n ≤ g
used_at true n g h le = le
used_at false n g h le = absurd (cc)

row_covered : (e : ℕ) (rows : List (List ℚ)) (used : List Bool) (s : Peaked) (i : ℕ) → IsTidy rows used → IsCovered s → i < 4
    → row_size e (row_of rows i) s.width ≤ max (s.peak * e) (greatest_of_four (λ j. if is_used used j then row_size e
    (row_of rows j) s.width else 0))
row_covered e rows used s i tidy c below = (elim (is_used used i) as (λ b. is_used used i ≡ b
    → row_size e (row_of rows i) s.width ≤ max (s.peak * e) (greatest_of_four (λ j. if is_used used j then row_size e
    (row_of rows j) s.width else 0))) [
      | true ↦ λ u. left_most _ _ (s.peak * e) (used_at (is_used used i) (row_size e (row_of rows i) s.width) _ u
          (greatest_at (λ j. if is_used used j then row_size e (row_of rows j) s.width else 0) i below))
      | false ↦ λ u. right_most _ _ _ (identity_size e (row_of rows i) s.width s.peak i below (c.sizes i below) (tidy.each i below u))
    ]) refl
  where
    left_most : (a g k : ℕ) → a ≤ g → a ≤ max k g
    left_most a g k h = omega (arith, h)

    right_most : (a g k : ℕ) → a ≤ k → a ≤ max k g
    right_most a g k h = omega (arith, h)

times_most : (a k e g : ℕ) → a ≤ k → a * e ≤ max (k * e) g
times_most a k e g h = omega (arith, mul-le-mul_right e h)

scaled_left : (a k p q : ℕ) → a ≤ k → a * p ≤ k * max p q
scaled_left a k p q h = let m : p ≤ max p q = omega arith in omega (arith, mul-le-mul_right p h, mul-le-mul_left k m)

scaled_right : (a k p q : ℕ) → a ≤ k → a * q ≤ k * max p q
scaled_right a k p q h = let m : q ≤ max p q = omega arith in omega (arith, mul-le-mul_right q h, mul-le-mul_left k m)

dithered_most : (n k d h : ℕ) → n ≤ k → n * h + d * h ≤ k * h + d * h
dithered_most n k d h le = omega (arith, mul-le-mul_right h le)

dithered_denominator : (k d h : ℕ) → d * h ≤ k * h + d * h
dithered_denominator k d h = omega arith

cleared_covered : (e d : ℕ) (given : Option ℚ) (n k g : ℕ) → n ≤ k → given_size e d given ≤ g → cleared_size e d given n ≤ max (k * e) g
cleared_covered e d None n k g h m = times_most n k e g h
cleared_covered e d (Some x) n k g h m = omega (arith, m)

limited_covered : (e d : ℕ) (given : Option ℚ) (n k g : ℕ) → n ≤ k → given_size e d given ≤ g → limited_size e d given n ≤ max (k * e) g
limited_covered e d None n k g h m = times_most n k e g h
limited_covered e d (Some x) n k g h m = both_most (n * e) (size_over e x * d) (k * e) g (mul-le-mul_right e h) m
  where
    both_most : (a b p q : ℕ) → a ≤ p → b ≤ q → max a b ≤ max p q
    both_most a b p q u v = omega (arith, u, v)

-- what is asked of a Linear alone
abbrev pub TidyOp : Op → List Bool → Type 0
TidyOp (Linear rows) used = IsTidy rows used
TidyOp _ used = Unit {0}

ops_covered : (stage : Stage) (op : Op) (used : List Bool) (s : Peaked) → are_good stage op ≡ true → TidyOp op used → IsCovered s
    → IsCovered (fractions_after op used s)
unfolding fractions_width fractions_peak
ops_covered stage (Read elem planes palette) used s good tidy c = c
ops_covered stage (Write elem planes) used s good tidy c = c
ops_covered stage SwapBytes used s good tidy c = c
ops_covered stage (Unpack widths) used s good tidy c = c
ops_covered stage (Pack widths) used s good tidy c = c
ops_covered stage (Clear entries) used s good tidy c =
    let e = entries_denominator entries in
    covers_of (s.width.denominator * e) _ (λ i. cleared_size e s.width.denominator (entry entries i) (size_in s.width i))
    (times_most s.width.denominator s.peak e _ c.denominator)
    (λ i below. cleared_covered e s.width.denominator (entry entries i) (size_in s.width i) s.peak _ (c.sizes i below)
    (greatest_at (λ j. given_size e s.width.denominator (entry entries j)) i below))
ops_covered stage (LeftShift n) used s good tidy c = c
ops_covered stage (RightShift n) used s good tidy c = c
ops_covered stage (Swizzle from) used s good tidy c =
    covers_of s.width.denominator s.peak (λ i. size_in s.width (slice_index from i)) c.denominator
    (λ i below. c.sizes (slice_index from i) (index_below from (swizzle_lanes stage from good) i))
ops_covered stage (Convert to expand) used s good tidy c = c
ops_covered stage (Dither k) used s good tidy c =
    let h = factor s.width.denominator (2 * 4 ^ k) in
    covers_of (s.width.denominator * h) _ (λ i. size_in s.width i * h + s.width.denominator * h)
    (dithered_denominator s.peak s.width.denominator h) (λ i below. dithered_most (size_in s.width i) s.peak s.width.denominator h
    (c.sizes i below))
ops_covered stage (Linear rows) used s good tidy c =
    let e = rows_denominator rows in
    covers_of (s.width.denominator * e) _ (λ i. row_size e (row_of rows i) s.width)
    (times_most s.width.denominator s.peak e _ c.denominator)
    (λ i below. row_covered e rows used s i tidy c below)
ops_covered stage (Scale by) used s good tidy c =
    covers_of (s.width.denominator * by.denominator) _ (λ i. size_in s.width i * unsigned_abs by.numerator)
    (scaled_right s.width.denominator s.peak (unsigned_abs by.numerator) by.denominator c.denominator)
    (λ i below. scaled_left (size_in s.width i) s.peak (unsigned_abs by.numerator) by.denominator (c.sizes i below))
ops_covered stage (Min limits) used s good tidy c =
    let e = entries_denominator limits in
    covers_of (s.width.denominator * e) _ (λ i. limited_size e s.width.denominator (entry limits i) (size_in s.width i))
    (times_most s.width.denominator s.peak e _ c.denominator)
    (λ i below. limited_covered e s.width.denominator (entry limits i) (size_in s.width i) s.peak _ (c.sizes i below)
    (greatest_at (λ j. given_size e s.width.denominator (entry limits j)) i below))
ops_covered stage (Max limits) used s good tidy c =
    let e = entries_denominator limits in
    covers_of (s.width.denominator * e) _ (λ i. limited_size e s.width.denominator (entry limits i) (size_in s.width i))
    (times_most s.width.denominator s.peak e _ c.denominator)
    (λ i below. limited_covered e s.width.denominator (entry limits i) (size_in s.width i) s.peak _ (c.sizes i below)
    (greatest_at (λ j. given_size e s.width.denominator (entry limits j)) i below))

-- ---- a whole type that becomes fractions
typed_bits : (stage : Stage) → is_typed stage ≡ true → is_rational stage ≡ false → 1 ≤ 2 ^ bits_at stage - 1
typed_bits Start h n = absurd (cc)
typed_bits Ended h n = absurd (cc)
typed_bits (Typed U8) h n = omega arith
typed_bits (Typed U16) h n = omega arith
typed_bits (Typed U32) h n = omega arith
typed_bits (Typed Rat) h n = absurd (cc)

whole_read : (elem : PixType) (b : Bool) → (is_whole_type elem && b) ≡ true → is_rational (Typed elem) ≡ true → ⊥
whole_read U8 b h r = cc
whole_read U16 b h r = cc
whole_read U32 b h r = cc
whole_read Rat b h r = cc

some_bits : (stage : Stage) (op : Op) → may_follow stage op ≡ true → are_good stage op ≡ true → is_rational stage ≡ false
    → is_rational (stage_after stage op) ≡ true → 1 ≤ 2 ^ bits_at stage - 1
unfolding may_follow are_good stage_after
some_bits stage (Read elem planes palette) f g n r =
    absurd (whole_read elem true (and_from _ true (and_parts _ _ (and_parts _ _ g).0).0 refl) r)
some_bits stage (Write elem planes) f g n r = absurd (cc)
some_bits stage (Convert to expand) f g n r = typed_bits stage f n
some_bits stage SwapBytes f g n r = absurd (cc)
some_bits stage (Unpack widths) f g n r = absurd (cc)
some_bits stage (Pack widths) f g n r = absurd (cc)
some_bits stage (Clear entries) f g n r = absurd (cc)
some_bits stage (LeftShift k) f g n r = absurd (cc)
some_bits stage (RightShift k) f g n r = absurd (cc)
some_bits stage (Swizzle from) f g n r = absurd (cc)
some_bits stage (Dither k) f g n r = absurd (cc)
some_bits stage (Linear rows) f g n r = absurd (cc)
some_bits stage (Scale by) f g n r = absurd (cc)
some_bits stage (Min limits) f g n r = absurd (cc)
some_bits stage (Max limits) f g n r = absurd (cc)

by_stage : (b : Bool) (v : Width) (j bits : ℕ) → (b ≡ true → IsCovered (peaked v j)) → (b ≡ false → 1 ≤ 2 ^ bits - 1)
    → IsCovered (peaked (if b then v else whole_width bits) (if b then j else 2 ^ bits - 1))
by_stage true v j bits h some = h refl
by_stage false v j bits h some = covers_of 1 (2 ^ bits - 1) (λ i. 2 ^ bits - 1) (some refl) (λ i below. omega arith)

step_covered : (stage : Stage) (op : Op) (used : List Bool) (s : Peaked) → may_follow stage op ≡ true → are_good stage op ≡ true
    → TidyOp op used → (is_rational stage ≡ true → IsCovered s) → is_rational (stage_after stage op) ≡ true
    → IsCovered (peaked_after stage op used s)
unfolding peaked_after width_after
step_covered stage op used s follows good tidy c next =
    by_stage (is_rational stage) (fractions_width op s.width) (fractions_peak op used s) (bits_at stage)
    (λ r. ops_covered stage op used s good tidy (c r)) (λ n. some_bits stage op follows good n next)

-- ---- a list
abbrev pub AreTidy : List Op → Type 0
AreTidy [] = Unit {0}
AreTidy (op ∷ ops) = TidyOp op (used_from ops) × AreTidy ops

tidy_op : (op : Op) (ops : List Op) → reset_unused (op ∷ ops) ≡ None → TidyOp op (used_from ops)
tidy_op (Linear rows) ops h = tidy_rows rows ops h
tidy_op _ ops h = tt

pub are_tidy : (ops : List Op) → ((front : List Op) (op : Op) (rest : List Op) → front ++ op ∷ rest ≡ ops → reset_unused (op ∷ rest) ≡ None)
    → AreTidy ops
are_tidy [] h = tt
are_tidy (op ∷ ops) h = (
  tidy_op op ops (h [] op ops refl),
  are_tidy ops (λ front other rest is. h (op ∷ front) other rest (ap
      (λ list. op ∷ list) is)),
)

own_head : (r : Bool) (s : Peaked) (i : ℕ) → i < 4 → (r ≡ true → IsCovered s)
    → (if r then own_size s.width i else 0) ≤ (if r then s.peak else 0)
own_head true s i below h = let c = h refl in omega (arith, c.denominator, c.sizes i below)
own_head false s i below h = omega arith

both_heads : (a b c d : ℕ) → a ≤ c → b ≤ d → max a b ≤ max c d
both_heads a b c d h k = omega (arith, h, k)

pub own_below : (stage : Stage) (ops : List Op) (s : Peaked) (i : ℕ) → i < 4 → are_typed stage ops ≡ true → AreTidy ops
    → (is_rational stage ≡ true → IsCovered s) → own_width_from stage ops s.width i ≤ peak_from stage ops s
unfolding own_width_from peak_from peaked_after
own_below stage [] s i below typed tidy c = omega arith
own_below stage (op ∷ ops) s i below typed tidy c =
    let parts = typed_parts stage op ops typed in
    let after = peaked_after stage op (used_from ops) s in
    let next = step_covered stage op (used_from ops) s parts.0 parts.1 tidy.0 c in
    both_heads (if is_rational (stage_after stage op) then own_size after.width i else 0) (own_width_from
    (stage_after stage op) ops after.width i)
    (if is_rational (stage_after stage op) then after.peak else 0) (peak_from (stage_after stage op) ops after)
    (own_head (is_rational (stage_after stage op)) after i below next)
    (own_below (stage_after stage op) ops after i below parts.2 tidy.1 next)
