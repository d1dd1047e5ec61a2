-- Idle operations that are dropped, entries, rows and indices that are trimmed, and conversions: none raises the peak.
use Rattle.std.proofs.Common.{◌≡◌, ℕ, zero, suc, ◌+◌, ◌*◌, ◌^◌, ◌<◌, ◌≤◌, Bool, true, false, not, ◌&&◌, ◌||◌, List, [], ◌∷◌}
use Rattle.std.proofs.Common.{nat_eq, eqb-true, max, subst, refl, sym, ◌∙◌, ap, arith}
use Rattle.std.specs.Prelude.{Option, Some, None, slice_index}
use Rattle.std.proofs.lemmas.Option.{none-some}
use Rattle.std.proofs.lemmas.Bool.{and_from, and_parts}
use Rattle.frac_math.specs.Fraction.{ℚ, nat, equal_ℚ}
use Rattle.frac_math.proofs.FractionRing.{equal_is}
use Rattle.op_list.specs.declared.types.PixType.{PixType}
use Rattle.op_list.specs.declared.types.PixType.TheVariants.{U8, U16, U32, Rat}
use Rattle.op_list.specs.declared.types.Stage.{Stage}
use Rattle.op_list.specs.declared.types.Stage.TheVariants.{Typed}
use Rattle.op_list.specs.declared.op.Op.{Op}
use Rattle.op_list.specs.declared.op.Op.TheVariants.{Clear, LeftShift, RightShift, Swizzle, Convert, Dither, Linear, Scale, Min, Max}
use Rattle.op_list.specs.Types.{is_rational, is_whole, is_whole_type, is_same, has_type}
use Rattle.op_list.specs.Typing.{stage_after}
use Rattle.op_list.specs.Values.{fraction_in, entry}
use Rattle.op_list.specs.Apply.{row_of}
use Rattle.op_list.specs.Identity.{is_identity_row}
use Rattle.op_list.proofs.Four.{get_or-four}
use Rattle.op_range.specs.declared.width.Width.{Width}
use Rattle.op_range.specs.FractionBounds.{factor}
use Rattle.op_range.specs.Ranges.{range_in}
use Rattle.op_range.specs.Used.{is_used, is_missing, takes, used_before, used_from}
use Rattle.op_range.specs.Width.{rows_denominator, entries_denominator, size_over, width_of, size_in, term_size, row_size}
use Rattle.op_range.specs.Width.{cleared_size, limited_size, fractions_width}
use Rattle.op_opt.specs.declared.change.Change.{Change}
use Rattle.op_opt.specs.Changes.{changed, taking}
use Rattle.op_opt.specs.OfFour.{all_of_four}
use Rattle.op_opt.specs.DropIdle.{are_missing, is_idle, drop_idle}
use Rattle.op_opt.specs.DropDither.{lead_to_floors, drop_dither}
use Rattle.op_opt.specs.SkipFraction.{skip_fraction}
use Rattle.op_opt.specs.ExpandBytes.{is_expanding_row, expands_used, goes_through_fractions, expand_bytes}
use Rattle.op_opt.specs.Peak.{Peaked, fractions_peak}
use Rattle.op_opt.proofs.PassedTests.{chosen, if_used, all_at}
use Rattle.op_opt.proofs.PeakSteps.{IsPart, Below, peaked, below_itself}
use Rattle.op_opt.proofs.PeakSteps.{taken_used}
use Rattle.op_opt.proofs.PeakTidy.{one_size}
use Rattle.op_opt.proofs.PeakFronts.{Eases, part_itself, drops_fractions}
use Rattle.op_opt.proofs.PeakFronts.{eases_dropped, eases_two, eases_three}
use Rattle.op_opt.proofs.PeakPasses.{IsEasing, by_change, taken_index, quiet}

-- ---- after an operation that is dropped
below_after : (used : List Bool) (s : Peaked) (f e : ℕ) (h : ℕ → ℕ) (k : ℕ) → s.width.denominator * f ≡ e
    → ((i : ℕ) → i < 4 → is_used used i ≡ true → size_in s.width i * f ≤ h i) → s.peak * f ≤ k → Below used s (peaked (width_of e h) k)
below_after used s f e h k is each most = record {
  ratio = f;
  denominator = is;
  sizes = λ i below u. omega (arith, each i below u, get_or-four h i 0 below);
  peak = most;
}

left_of_max : (a b : ℕ) → a ≤ max a b
left_of_max a b = omega arith

missing_cleared : (e d : ℕ) (given : Option ℚ) (n : ℕ) → is_missing given ≡ true → n * e ≤ cleared_size e d given n
missing_cleared e d None n h = omega arith
missing_cleared e d (Some x) n h = absurd (cc)

unlimited : (e d : ℕ) (given : Option ℚ) (n : ℕ) → n * e ≤ limited_size e d given n
unlimited e d None n = omega arith
unlimited e d (Some x) n = left_of_max (n * e) (size_over e x * d)

clear_dropped : (stage : Stage) (entries : List (Option ℚ)) (rest : List Op) → are_missing entries ≡ true
    → Eases stage (Clear entries ∷ rest) rest
unfolding stage_after used_before fractions_width fractions_peak
clear_dropped stage entries rest h =
    let missing = λ (i : ℕ) (below : i < 4). all_at (λ j. is_missing (entry entries j)) i below h in
    drops_fractions stage (Clear entries) rest refl
    (record {
      each = λ i below u. get_or-four (λ k. is_used (used_from rest) k && is_missing (entry entries k)) i false below
          ∙ and_from _ _ u (missing i below);
    })
    (λ s. below_after (used_from rest) s (entries_denominator entries) (s.width.denominator * entries_denominator entries)
    (λ i. cleared_size (entries_denominator entries) s.width.denominator (entry entries i) (size_in s.width i)) _ refl
    (λ i below u. missing_cleared (entries_denominator entries) s.width.denominator (entry entries i) (size_in s.width i) (missing i below))
    (left_of_max _ _))

min_dropped : (stage : Stage) (limits : List (Option ℚ)) (rest : List Op) → Eases stage (Min limits ∷ rest) rest
unfolding stage_after used_before fractions_width fractions_peak
min_dropped stage limits rest =
    drops_fractions stage (Min limits) rest refl (part_itself (used_from rest))
    (λ s. below_after (used_from rest) s (entries_denominator limits) (s.width.denominator * entries_denominator limits)
    (λ i. limited_size (entries_denominator limits) s.width.denominator (entry limits i) (size_in s.width i)) _ refl
    (λ i below u. unlimited (entries_denominator limits) s.width.denominator (entry limits i) (size_in s.width i)) (left_of_max _ _))

max_dropped : (stage : Stage) (limits : List (Option ℚ)) (rest : List Op) → Eases stage (Max limits ∷ rest) rest
unfolding stage_after used_before fractions_width fractions_peak
max_dropped stage limits rest =
    drops_fractions stage (Max limits) rest refl (part_itself (used_from rest))
    (λ s. below_after (used_from rest) s (entries_denominator limits) (s.width.denominator * entries_denominator limits)
    (λ i. limited_size (entries_denominator limits) s.width.denominator (entry limits i) (size_in s.width i)) _ refl
    (λ i below u. unlimited (entries_denominator limits) s.width.denominator (entry limits i) (size_in s.width i)) (left_of_max _ _))

dither_dropped : (stage : Stage) (k : ℕ) (rest : List Op) → Eases stage (Dither k ∷ rest) rest
unfolding stage_after used_before fractions_width fractions_peak
dither_dropped stage k rest =
    drops_fractions stage (Dither k) rest refl (part_itself (used_from rest))
    (λ s. below_after (used_from rest) s (factor s.width.denominator (2 * 4 ^ k)) (s.width.denominator * factor s.width.denominator
    (2 * 4 ^ k))
    (λ i. size_in s.width i * factor s.width.denominator (2 * 4 ^ k) + s.width.denominator * factor s.width.denominator (2 * 4 ^ k)) _ refl
    (λ i below u. left_of_sum _ _) (left_of_sum _ _))
  where
    left_of_sum : (a b : ℕ) → a ≤ a + b
    left_of_sum a b = omega arith

one_dropped : (stage : Stage) (rest : List Op) → Eases stage (Scale (nat 1) ∷ rest) rest
unfolding stage_after used_before fractions_width fractions_peak
one_dropped stage rest =
    drops_fractions stage (Scale (nat 1)) rest refl (part_itself (used_from rest))
    (λ s. below_after (used_from rest) s 1 (s.width.denominator * 1) (λ i. size_in s.width i * 1) _ refl (λ i below u. omega arith)
    (omega arith))

-- ---- identity rows
one_coefficient : (row : List ℚ) (i : ℕ) → i < 4 → is_identity_row i row ≡ true → fraction_in row i ≡ nat 1
unfolding is_identity_row
one_coefficient row zero below h = equal_is (fraction_in row 0) (nat 1) (and_parts _ _ (and_parts _ _ (and_parts _ _
    (and_parts _ _ h).0).0).0).0
one_coefficient row (suc zero) below h = equal_is (fraction_in row 1) (nat 1) (and_parts _ _ (and_parts _ _ (and_parts _ _
    (and_parts _ _ h).0).0).0).1
one_coefficient row (suc (suc zero)) below h = equal_is (fraction_in row 2) (nat 1) (and_parts _ _ (and_parts _ _ (and_parts _ _ h).0).0).1
one_coefficient row (suc (suc (suc zero))) below h = equal_is (fraction_in row 3) (nat 1) (and_parts _ _ (and_parts _ _ h).0).1
one_coefficient row (suc (suc (suc (suc i)))) below h = absurd (omega arith)

term_in_row : (e : ℕ) (row : List ℚ) (w : Width) (i : ℕ) → i < 4 → term_size e row w i ≤ row_size e row w
term_in_row e row w zero below = in_sum0 _ _ _ _ _
  where
    in_sum0 : (a b c d x : ℕ) → a ≤ a + b + c + d + x
    in_sum0 a b c d x = omega arith
term_in_row e row w (suc zero) below = in_sum1 _ _ _ _ _
  where
    in_sum1 : (a b c d x : ℕ) → b ≤ a + b + c + d + x
    in_sum1 a b c d x = omega arith
term_in_row e row w (suc (suc zero)) below = in_sum2 _ _ _ _ _
  where
    in_sum2 : (a b c d x : ℕ) → c ≤ a + b + c + d + x
    in_sum2 a b c d x = omega arith
term_in_row e row w (suc (suc (suc zero))) below = in_sum3 _ _ _ _ _
  where
    in_sum3 : (a b c d x : ℕ) → d ≤ a + b + c + d + x
    in_sum3 a b c d x = omega arith
term_in_row e row w (suc (suc (suc (suc i)))) below = absurd (omega arith)

one_term : (e c n r : ℕ) → c ≡ e → c * n ≤ r → n * e ≤ r
one_term e c n r h le = omega (arith, ap (λ x. x * n) h, le)

pub some_taken : (row : List ℚ) (i : ℕ) (x : ℚ) → fraction_in row i ≡ x → not (equal_ℚ x (nat 0)) ≡ true → takes row i ≡ true
some_taken row i x is h = ap (λ y. not (equal_ℚ y (nat 0))) is ∙ h

one_not_zero : not (equal_ℚ (nat 1) (nat 0)) ≡ true
unfolding equal_ℚ
one_not_zero = refl

linear_dropped : (stage : Stage) (rows : List (List ℚ)) (rest : List Op)
    → all_of_four (λ i. not (is_used (used_from rest) i) || is_identity_row i (row_of rows i)) ≡ true
    → Eases stage (Linear rows ∷ rest) rest
unfolding stage_after fractions_width fractions_peak
linear_dropped stage rows rest h =
    let used = used_from rest in
    let one = λ (i : ℕ) (below : i < 4) (u : is_used used i ≡ true). one_coefficient (row_of rows i) i below
    (if_used (is_used used i) _ (all_at (λ j. not (is_used used j) || is_identity_row j (row_of rows j)) i below h) u) in
    let e = rows_denominator rows in
    drops_fractions stage (Linear rows) rest refl
    (record {
      each = λ i below u. taken_used rows used i i below below u (some_taken (row_of rows i) i (nat 1)
          (one i below u) one_not_zero);
    })
    (λ s. below_after used s e (s.width.denominator * e) (λ i. row_size e (row_of rows i) s.width) _ refl
    (λ i below u. one_term e (size_over e (fraction_in (row_of rows i) i)) (size_in s.width i) (row_size e (row_of rows i) s.width)
    (one_size e (fraction_in (row_of rows i) i) (one i below u)) (term_in_row e (row_of rows i) s.width i below)) (left_of_max _ _))

swizzle_dropped : (stage : Stage) (from : List ℕ) (rest : List Op)
    → all_of_four (λ i. not (is_used (used_from rest) i) || nat_eq (slice_index from i) i) ≡ true → Eases stage (Swizzle from ∷ rest) rest
unfolding stage_after fractions_width fractions_peak
swizzle_dropped stage from rest h =
    let used = used_from rest in
    let same = λ (i : ℕ) (below : i < 4) (u : is_used used i ≡ true). eqb-true (slice_index from i) i
    (if_used (is_used used i) _ (all_at (λ j. not (is_used used j) || nat_eq (slice_index from j) j) i below h) u) in
    drops_fractions stage (Swizzle from) rest refl
    (record { each = λ i below u. taken_index from used i i below below u (same i below u) })
    (λ s. below_after used s 1 s.width.denominator (λ i. size_in s.width (slice_index from i)) s.peak (omega arith)
    (λ i below u. same_times (size_in s.width i) (size_in s.width (slice_index from i)) (ap (size_in s.width) (same i below u)))
    (omega arith))
  where
    same_times : (a b : ℕ) → b ≡ a → a * 1 ≤ b
    same_times a b is = omega (arith, is)

same_stage : (to : PixType) (stage : Stage) → has_type to stage ≡ true → Typed to ≡ stage
same_stage U8 (Typed U8) is = refl
same_stage U16 (Typed U16) is = refl
same_stage U32 (Typed U32) is = refl
same_stage Rat (Typed Rat) is = refl
same_stage _ _ is = absurd (cc)

idle_eases : (stage : Stage) (op : Op) (rest : List Op) → is_idle stage (used_from rest) op ≡ true → Eases stage (op ∷ rest) rest
unfolding is_idle stage_after used_before fractions_width fractions_peak
idle_eases stage (Clear entries) rest h = clear_dropped stage entries rest h
idle_eases stage (LeftShift n) rest h =
    drops_fractions stage (LeftShift n) rest refl (part_itself (used_from rest)) (λ s. below_itself (used_from rest) s)
idle_eases stage (RightShift n) rest h =
    drops_fractions stage (RightShift n) rest refl (part_itself (used_from rest)) (λ s. below_itself (used_from rest) s)
idle_eases stage (Swizzle from) rest h = swizzle_dropped stage from rest h
idle_eases stage (Convert to expand) rest h =
    eases_dropped stage (Convert to expand) rest (λ typed. same_stage to stage (and_parts (has_type to stage) (not expand) h).0)
    (λ typed. part_itself (used_from rest))
    (λ s r. subst (λ (t : Peaked). Below (used_from rest) s t) (sym (quiet stage (Convert to expand) (used_from rest) s refl r))
    (below_itself (used_from rest) s))
idle_eases stage (Linear rows) rest h = linear_dropped stage rows rest h
idle_eases stage (Scale by) rest h =
    subst (λ (x : ℚ). Eases stage (Scale x ∷ rest) rest) (sym (equal_is by (nat 1) h)) (one_dropped stage rest)
idle_eases stage (Min limits) rest h = min_dropped stage limits rest
idle_eases stage (Max limits) rest h = max_dropped stage limits rest
idle_eases stage _ rest h = absurd (cc)

pub drop_idle_easing : IsEasing (λ stage ranges ops. drop_idle stage ops)
unfolding drop_idle
drop_idle_easing stage ranges [] change is = absurd (none-some change is)
drop_idle_easing stage ranges (op ∷ rest) change is =
    let c = chosen (is_idle stage (used_from rest) op) _ change is in
    by_change stage (op ∷ rest) _ change c.1 (idle_eases stage op rest c.0)

pub drop_dither_easing : IsEasing (λ stage ranges ops. drop_dither ranges ops)
unfolding drop_dither
drop_dither_easing stage ranges (Dither k ∷ rest) change is =
    let c = chosen (all_of_four (λ i. not (is_used (used_from rest) i) || (range_in ranges i).whole) && lead_to_floors rest) _ change is in
    by_change stage (Dither k ∷ rest) _ change c.1 (dither_dropped stage k rest)
drop_dither_easing stage ranges _ change is = absurd (none-some change is)

-- ---- conversions
never_rational : (to : PixType) → is_whole_type to ≡ true → is_rational (Typed to) ≡ true → ⊥
never_rational U8 h r = cc
never_rational U16 h r = cc
never_rational U32 h r = cc
never_rational Rat h r = cc

pub skip_fraction_easing : IsEasing (λ stage ranges ops. skip_fraction stage ops)
unfolding skip_fraction stage_after used_before
skip_fraction_easing stage ranges (Convert by first ∷ Convert to expand ∷ rest) change is =
    let c = chosen (is_whole stage && is_same by Rat && is_whole_type to && not expand) _ change is in
    let p = and_parts (is_whole stage && is_same by Rat && is_whole_type to) (not expand) c.0 in
    let q = and_parts (is_whole stage && is_same by Rat) (is_whole_type to) p.0 in
    by_change stage (Convert by first ∷ Convert to expand ∷ rest) _ change c.1
    (eases_two stage (Convert by first) (Convert to expand) (Convert to false) rest (λ typed. refl) (λ typed. part_itself (used_from rest))
    (λ s typed p r. absurd (never_rational to q.1 r)))
skip_fraction_easing stage ranges _ change is = absurd (none-some change is)

word_type : (to : PixType) → is_same to U16 ≡ true → to ≡ U16
word_type U8 h = absurd (cc)
word_type U16 h = refl
word_type U32 h = absurd (cc)
word_type Rat h = absurd (cc)

words_whole : (to : PixType) → is_same to U16 ≡ true → is_rational (Typed to) ≡ true → ⊥
words_whole U8 h r = cc
words_whole U16 h r = cc
words_whole U32 h r = cc
words_whole Rat h r = cc

expanding_is : (row : List ℚ) (i : ℕ) → i < 4 → is_expanding_row i row ≡ true → fraction_in row i ≡ nat 257
unfolding is_expanding_row
expanding_is row zero below h = equal_is (fraction_in row 0) (nat 257) (and_parts _ _ (and_parts _ _ (and_parts _ _
    (and_parts _ _ h).0).0).0).0
expanding_is row (suc zero) below h = equal_is (fraction_in row 1) (nat 257) (and_parts _ _ (and_parts _ _ (and_parts _ _
    (and_parts _ _ h).0).0).0).1
expanding_is row (suc (suc zero)) below h = equal_is (fraction_in row 2) (nat 257) (and_parts _ _ (and_parts _ _ (and_parts _ _ h).0).0).1
expanding_is row (suc (suc (suc zero))) below h = equal_is (fraction_in row 3) (nat 257) (and_parts _ _ (and_parts _ _ h).0).1
expanding_is row (suc (suc (suc (suc i)))) below h = absurd (omega arith)

many_not_zero : not (equal_ℚ (nat 257) (nat 0)) ≡ true
unfolding equal_ℚ
many_not_zero = refl

expanded : (stage : Stage) (by to : PixType) (first last : Bool) (op : Op) (rest : List Op) (change : Change)
    → ((n : Stage) → stage_after n op ≡ n) → IsPart (used_from rest) (used_before op (used_from rest))
    → goes_through_fractions stage by to ≡ true
    → taking 3 (Some (Convert U16 true)) ≡ Some change
    → Eases stage (Convert by first ∷ op ∷ Convert to last ∷ rest) (changed (Convert by first ∷ op ∷ Convert to last ∷ rest) change)
unfolding stage_after used_before
expanded stage by to first last op rest change stays part through is =
    let p = and_parts (has_type U8 stage && is_same by Rat) (is_same to U16) through in
    by_change stage (Convert by first ∷ op ∷ Convert to last ∷ rest) _ change is
    (eases_three stage (Convert by first) op (Convert to last) (Convert U16 true) rest (ap (λ (t : PixType). Typed t) (sym
    (word_type to p.1)))
    (words_whole to p.1) part)

pub expand_bytes_easing : IsEasing (λ stage ranges ops. expand_bytes stage ops)
unfolding expand_bytes stage_after used_before
expand_bytes_easing stage ranges (Convert by first ∷ Scale x ∷ Convert to last ∷ rest) change is =
    let c = chosen (goes_through_fractions stage by to && equal_ℚ x (nat 257)) _ change is in
    expanded stage by to first last (Scale x) rest change (λ n. refl) (part_itself (used_from rest))
    (and_parts (goes_through_fractions stage by to) (equal_ℚ x (nat 257)) c.0).0 c.1
expand_bytes_easing stage ranges (Convert by first ∷ Linear rows ∷ Convert to last ∷ rest) change is =
    let c = chosen (goes_through_fractions stage by to && expands_used (used_from rest) rows) _ change is in
    let p = and_parts (goes_through_fractions stage by to) (expands_used (used_from rest) rows) c.0 in
    let used = used_from rest in
    expanded stage by to first last (Linear rows) rest change (λ n. refl)
    (record {
      each = λ i below u. taken_used rows used i i below below u (some_taken (row_of rows i) i (nat 257)
          (expanding_is (row_of rows i) i below
          (if_used (is_used used i) _ (all_at (λ j. not (is_used used j) || is_expanding_row j
          (row_of rows j)) i below p.1) u)) many_not_zero);
    })
    p.0 c.1
expand_bytes_easing stage ranges _ change is = absurd (none-some change is)
