-- Entries, rows and indices of values that do not count are trimmed: the peak does not rise.
use Rattle.std.proofs.Common.{◌≡◌, ℕ, zero, suc, ◌*◌, ◌/◌, ◌<◌, ◌≤◌, Bool, true, false, not, ◌&&◌, ◌||◌, if◌then◌else◌, List, [], ◌∷◌}
use Rattle.std.proofs.Common.{nat_eq, eq-eqb, max, subst, refl, sym, ◌∙◌, ap, arith}
use Rattle.std.specs.Prelude.{Option, Some, None, slice_index}
use Rattle.std.proofs.lemmas.Option.{none-some, option_and_then_some}
use Rattle.std.proofs.lemmas.Bool.{and_from, and_parts}
use Rattle.std.proofs.Math.Nat.{div-mul_cancel}
use Prim.Native.Nat.{◌∣◌}
use Rattle.frac_math.specs.Fraction.{ℚ, nat}
use Rattle.op_list.specs.declared.types.Stage.{Stage}
use Rattle.op_list.specs.declared.op.Op.{Op}
use Rattle.op_list.specs.declared.op.Op.TheVariants.{Clear, Swizzle, Linear, Min, Max}
use Rattle.op_list.specs.Typing.{stage_after}
use Rattle.op_list.specs.Values.{fraction_in, entry}
use Rattle.op_list.specs.Apply.{row_of}
use Rattle.op_list.specs.Identity.{is_identity_row}
use Rattle.op_list.proofs.Four.{get_or-four}
use Rattle.op_range.specs.declared.width.Width.{Width}
use Rattle.op_range.specs.Ranges.{range_in}
use Rattle.op_range.specs.Used.{is_used, any_of_four, is_missing, takes, used_before, used_from}
use Rattle.op_range.specs.Width.{rows_denominator, entries_denominator, size_over, width_of, size_in, row_size}
use Rattle.op_range.specs.Width.{cleared_size, limited_size, fractions_width}
use Rattle.op_range.proofs.AnyOfFour.{any_from}
use Rattle.op_opt.specs.Entries.{without, is_given}
use Rattle.op_opt.specs.OfFour.{lowest}
use Rattle.op_opt.specs.TrimClear.{trim_clear}
use Rattle.op_opt.specs.TrimClamp.{is_known_at_most, trim_clamp}
use Rattle.op_opt.specs.ResetUnused.{identity_row, reset_row, reset_index, reset_unused}
use Rattle.op_opt.specs.Peak.{Peaked, greatest_of_four, given_size, fractions_peak}
use Rattle.op_opt.proofs.PassedTests.{from_not}
use Rattle.op_opt.proofs.Dropping.{lowest_passes, other_entry, dropped_entry, by_place, one_unused}
use Rattle.op_range.proofs.Multiples.{entries_divide, entries_each, entries_positive, rows_divide, rows_each, rows_positive, size_scaled}
use Rattle.op_range.proofs.Multiples.{one_divides}
use Rattle.op_opt.proofs.PeakSteps.{Below, peaked, below_of, max_scaled, greatest_scaled, if_both}
use Rattle.op_opt.proofs.PeakSteps.{sum_scaled}
use Rattle.op_opt.proofs.PeakFronts.{Eases, any_found, four_part, part_itself, one_fractions}
use Rattle.op_opt.proofs.PeakPasses.{IsEasing, by_change, taken_index, index_part}

-- ---- numbers over a divisor
quotient_of : (e n : ℕ) → e ∣ n → e * (n / e) ≡ n
quotient_of e n h = omega (arith, div-mul_cancel e h)

up_times : (n e f m : ℕ) → e * f ≡ m → n * e * f ≤ n * m
up_times n e f m is = omega (arith, ap (λ x. n * x) is)

up_same : (n e f m : ℕ) → e * f ≡ m → n * e * f ≡ n * m
up_same n e f m is = omega (arith, ap (λ x. n * x) is)

up_const : (a b d f : ℕ) → b ≡ a * f → a * d * f ≤ b * d
up_const a b d f is = omega (arith, ap (λ x. x * d) is)

size_up : (e f m : ℕ) (x : ℚ) → e * f ≡ m → x.denominator ∣ e → size_over m x ≡ size_over e x * f
size_up e f m x is h = ap (λ k. size_over k x) (sym is) ∙ size_scaled e f x h

-- ---- entries
unless_some : (b : Bool) (o : Option ℚ) (x : ℚ) → (if b then None else o) ≡ Some x → o ≡ Some x
unless_some true o x h = absurd (none-some x h)
unless_some false o x h = h

kept_entry : (entries : List (Option ℚ)) (k i : ℕ) (x : ℚ) → entry (without entries k) i ≡ Some x → entry entries i ≡ Some x
kept_entry entries k zero x h = unless_some (nat_eq 0 k) (entry entries 0) x h
kept_entry entries k (suc zero) x h = unless_some (nat_eq 1 k) (entry entries 1) x h
kept_entry entries k (suc (suc zero)) x h = unless_some (nat_eq 2 k) (entry entries 2) x h
kept_entry entries k (suc (suc (suc zero))) x h = unless_some (nat_eq 3 k) (entry entries 3) x h
kept_entry entries k (suc (suc (suc (suc i)))) x h = absurd (none-some x h)

fewer_divide : (entries : List (Option ℚ)) (k : ℕ) → entries_denominator (without entries k) ∣ entries_denominator entries
fewer_divide entries k =
    entries_divide (without entries k) (entries_denominator entries) (entries_positive entries)
    (λ i x h. entries_each entries i x (kept_entry entries k i x h))

cleared_up : (e f m d n : ℕ) (given : Option ℚ) → e * f ≡ m → ((x : ℚ) → given ≡ Some x → x.denominator ∣ e)
    → cleared_size e d given n * f ≤ cleared_size m d given n
cleared_up e f m d n None is each = up_times n e f m is
cleared_up e f m d n (Some x) is each = up_const (size_over e x) (size_over m x) d f (size_up e f m x is (each x refl))

limited_up : (e f m d n : ℕ) (given : Option ℚ) → e * f ≡ m → ((x : ℚ) → given ≡ Some x → x.denominator ∣ e)
    → limited_size e d given n * f ≤ limited_size m d given n
limited_up e f m d n None is each = up_times n e f m is
limited_up e f m d n (Some x) is each =
    max_scaled (n * e) (size_over e x * d) f (n * m) (size_over m x * d) (up_times n e f m is)
    (up_const (size_over e x) (size_over m x) d f (size_up e f m x is (each x refl)))

given_up : (e f m d : ℕ) (given : Option ℚ) → e * f ≡ m → ((x : ℚ) → given ≡ Some x → x.denominator ∣ e)
    → given_size e d given * f ≤ given_size m d given
given_up e f m d None is each = omega arith
given_up e f m d (Some x) is each = up_const (size_over e x) (size_over m x) d f (size_up e f m x is (each x refl))

none_limited : (e f m d n : ℕ) (given other : Option ℚ) → e * f ≡ m → other ≡ None → limited_size e d other n * f ≤ limited_size m d given n
none_limited e f m d n None None is h = up_times n e f m is
none_limited e f m d n (Some x) None is h = above (n * e * f) (n * m) (size_over m x * d) (up_times n e f m is)
  where
    above : (a b c : ℕ) → a ≤ b → a ≤ max b c
    above a b c h = omega (arith, h)
none_limited e f m d n given (Some y) is h = absurd (none-some y (sym h))

none_given : (e f m d : ℕ) (given other : Option ℚ) → other ≡ None → given_size e d other * f ≤ given_size m d given
none_given e f m d given None h = omega arith
none_given e f m d given (Some y) h = absurd (none-some y (sym h))

entries_trimmed : (entries : List (Option ℚ)) (k : ℕ) (used : List Bool) (s : Peaked) (g h : ℕ → ℕ) → k < 4
    → ((i : ℕ) → i < 4 → is_used used i ≡ true
    → g i * (entries_denominator entries / entries_denominator (without entries k)) ≤ h i)
    → Below used (peaked (width_of (s.width.denominator * entries_denominator (without entries k)) g)
    (max (s.peak * entries_denominator (without entries k))
    (greatest_of_four (λ i. given_size (entries_denominator (without entries k)) s.width.denominator (entry (without entries k) i)))))
    (peaked (width_of (s.width.denominator * entries_denominator entries) h) (max (s.peak * entries_denominator entries)
    (greatest_of_four (λ i. given_size (entries_denominator entries) s.width.denominator (entry entries i)))))
entries_trimmed entries k used s g h inside each =
    let e = entries_denominator (without entries k) in
    let m = entries_denominator entries in
    let d = s.width.denominator in
    let f = m / e in
    let is = quotient_of e m (fewer_divide entries k) in
    below_of used f (d * e) (d * m) g h _ _ (up_same d e f m is) each
    (max_scaled (s.peak * e) _ f (s.peak * m) _ (up_times s.peak e f m is)
    (greatest_scaled (λ i. given_size e d (entry (without entries k) i)) (λ i. given_size m d (entry entries i)) f
    (λ i below. by_place i k
    (λ same. none_given e f m d (entry entries i) (entry (without entries k) i)
    (ap (entry (without entries k)) same ∙ dropped_entry entries k inside (eq-eqb k k refl)))
    (λ other. subst (λ (o : Option ℚ). given_size e d (entry (without entries k) i) * f ≤ given_size m d o)
    (other_entry entries k i below other)
    (given_up e f m d (entry (without entries k) i) is (entries_each (without entries k) i))))))

clear_trimmed : (stage : Stage) (entries : List (Option ℚ)) (k : ℕ) (rest : List Op) → k < 4 → is_used (used_from rest) k ≡ false
    → Eases stage (Clear entries ∷ rest) (Clear (without entries k) ∷ rest)
unfolding stage_after used_before fractions_width fractions_peak
clear_trimmed stage entries k rest inside free =
    let used = used_from rest in
    let e = entries_denominator (without entries k) in
    let m = entries_denominator entries in
    one_fractions stage (Clear entries) (Clear (without entries k)) rest refl refl
    (λ typed. four_part (λ i. is_used used i && is_missing (entry (without entries k) i)) (λ i. is_used used i && is_missing
    (entry entries i))
    (λ i below t. (let p = and_parts (is_used used i) (is_missing (entry (without entries k) i)) t in
    and_from (is_used used i) (is_missing (entry entries i)) p.0 (by_place i k
    (λ same. absurd (one_unused (is_used used) i k p.0 free same))
    (λ other. sym (ap is_missing (other_entry entries k i below other)) ∙ p.1)))))
    (λ s. entries_trimmed entries k used s (λ i. cleared_size e s.width.denominator (entry (without entries k) i) (size_in s.width i))
    (λ i. cleared_size m s.width.denominator (entry entries i) (size_in s.width i)) inside
    (λ i below u. by_place i k (λ same. absurd (one_unused (is_used used) i k u free same))
    (λ other. subst (λ (o : Option ℚ). cleared_size e s.width.denominator (entry (without entries k) i) (size_in s.width i) * (m / e)
    ≤ cleared_size m s.width.denominator o (size_in s.width i)) (other_entry entries k i below other)
    (cleared_up e (m / e) m s.width.denominator (size_in s.width i) (entry (without entries k) i) (quotient_of e m (fewer_divide entries k))
    (entries_each (without entries k) i)))))

limit_up : (entries : List (Option ℚ)) (k i d n : ℕ) → k < 4 → i < 4
    → limited_size (entries_denominator (without entries k)) d (entry (without entries k) i) n
    * (entries_denominator entries / entries_denominator (without entries k))
    ≤ limited_size (entries_denominator entries) d (entry entries i) n
limit_up entries k i d n inside below =
    let e = entries_denominator (without entries k) in
    let m = entries_denominator entries in
    let is = quotient_of e m (fewer_divide entries k) in
    by_place i k
    (λ same. none_limited e (m / e) m d n (entry entries i) (entry (without entries k) i) is
    (ap (entry (without entries k)) same ∙ dropped_entry entries k inside (eq-eqb k k refl)))
    (λ other. subst (λ (o : Option ℚ). limited_size e d (entry (without entries k) i) n * (m / e) ≤ limited_size m d o n)
    (other_entry entries k i below other)
    (limited_up e (m / e) m d n (entry (without entries k) i) is (entries_each (without entries k) i)))

min_trimmed : (stage : Stage) (limits : List (Option ℚ)) (k : ℕ) (rest : List Op) → k < 4
    → Eases stage (Min limits ∷ rest) (Min (without limits k) ∷ rest)
unfolding stage_after used_before fractions_width fractions_peak
min_trimmed stage limits k rest inside =
    one_fractions stage (Min limits) (Min (without limits k)) rest refl refl (λ typed. part_itself (used_from rest))
    (λ s. entries_trimmed limits k (used_from rest) s
    (λ i. limited_size (entries_denominator (without limits k)) s.width.denominator (entry (without limits k) i) (size_in s.width i))
    (λ i. limited_size (entries_denominator limits) s.width.denominator (entry limits i) (size_in s.width i)) inside
    (λ i below u. limit_up limits k i s.width.denominator (size_in s.width i) inside below))

max_trimmed : (stage : Stage) (limits : List (Option ℚ)) (k : ℕ) (rest : List Op) → k < 4
    → Eases stage (Max limits ∷ rest) (Max (without limits k) ∷ rest)
unfolding stage_after used_before fractions_width fractions_peak
max_trimmed stage limits k rest inside =
    one_fractions stage (Max limits) (Max (without limits k)) rest refl refl (λ typed. part_itself (used_from rest))
    (λ s. entries_trimmed limits k (used_from rest) s
    (λ i. limited_size (entries_denominator (without limits k)) s.width.denominator (entry (without limits k) i) (size_in s.width i))
    (λ i. limited_size (entries_denominator limits) s.width.denominator (entry limits i) (size_in s.width i)) inside
    (λ i below u. limit_up limits k i s.width.denominator (size_in s.width i) inside below))

pub trim_clear_easing : IsEasing (λ stage ranges ops. trim_clear ops)
unfolding trim_clear
trim_clear_easing stage ranges (Clear entries ∷ rest) change is =
    let test = λ (i : ℕ). is_given (entry entries i) && not (is_used (used_from rest) i) in
    option_and_then_some _ (lowest test) change is
    (λ i first same.
    (let l = lowest_passes test i first in
    by_change stage (Clear entries ∷ rest) _ change same
    (clear_trimmed stage entries i rest l.0 (from_not _ (and_parts (is_given (entry entries i)) (not (is_used
    (used_from rest) i)) l.1).1))))
trim_clear_easing stage ranges _ change is = absurd (none-some change is)

pub trim_clamp_easing : IsEasing (λ stage ranges ops. trim_clamp ranges ops)
unfolding trim_clamp
trim_clamp_easing stage ranges (Min limits ∷ rest) change is =
    option_and_then_some _ (lowest (λ i. is_given (entry limits i) && (not (is_used (used_from rest) i) || is_known_at_most
    (range_in ranges i).greatest (entry limits i)))) change is
    (λ i first same. by_change stage (Min limits ∷ rest) _ change same (min_trimmed stage limits i rest (lowest_passes
    (λ j. is_given (entry limits j) && (not (is_used (used_from rest) j) || is_known_at_most (range_in ranges j).greatest
    (entry limits j))) i
    first).0))
trim_clamp_easing stage ranges (Max limits ∷ rest) change is =
    option_and_then_some _ (lowest (λ i. is_given (entry limits i) && (not (is_used (used_from rest) i) || is_known_at_most
    (entry limits i) (range_in ranges i).least))) change is
    (λ i first same. by_change stage (Max limits ∷ rest) _ change same (max_trimmed stage limits i rest (lowest_passes
    (λ j. is_given (entry limits j) && (not (is_used (used_from rest) j) || is_known_at_most (entry limits j) (range_in ranges j).least)) i
    first).0))
trim_clamp_easing stage ranges _ change is = absurd (none-some change is)

-- ---- rows
one_over : (b : Bool) (m : ℕ) → (if b then nat 1 else nat 0).denominator ∣ m
one_over true m = one_divides m
one_over false m = one_divides m

identity_over : (i j m : ℕ) → (fraction_in (identity_row i) j).denominator ∣ m
identity_over i zero m = one_over (nat_eq 0 i) m
identity_over i (suc zero) m = one_over (nat_eq 1 i) m
identity_over i (suc (suc zero)) m = one_over (nat_eq 2 i) m
identity_over i (suc (suc (suc zero))) m = one_over (nat_eq 3 i) m
identity_over i (suc (suc (suc (suc zero)))) m = one_over (nat_eq 4 i) m
identity_over i (suc (suc (suc (suc (suc j))))) m = one_divides m

chosen_over : (b : Bool) (r q : List ℚ) (j m : ℕ) → (fraction_in r j).denominator ∣ m → (fraction_in q j).denominator ∣ m
    → (fraction_in (if b then r else q) j).denominator ∣ m
chosen_over true r q j m h k = h
chosen_over false r q j m h k = k

reset_over : (rows : List (List ℚ)) (k i j : ℕ) → (fraction_in (row_of (reset_row rows k) i) j).denominator ∣ rows_denominator rows
reset_over rows k zero j = chosen_over (nat_eq 0 k) (identity_row 0) (row_of rows 0) j _ (identity_over 0 j _) (rows_each rows 0 j)
reset_over rows k (suc zero) j = chosen_over (nat_eq 1 k) (identity_row 1) (row_of rows 1) j _ (identity_over 1 j _) (rows_each rows 1 j)
reset_over rows k (suc (suc zero)) j = chosen_over (nat_eq 2 k) (identity_row 2) (row_of rows 2) j _ (identity_over 2 j _)
    (rows_each rows 2 j)
reset_over rows k (suc (suc (suc zero))) j = chosen_over (nat_eq 3 k) (identity_row 3) (row_of rows 3) j _ (identity_over 3 j _)
    (rows_each rows 3 j)
reset_over rows k (suc (suc (suc (suc i)))) j = one_divides (rows_denominator rows)

other_row : (rows : List (List ℚ)) (k i : ℕ) → i < 4 → nat_eq i k ≡ false → row_of (reset_row rows k) i ≡ row_of rows i
other_row rows k i below other =
    get_or-four (λ j. if nat_eq j k then identity_row j else row_of rows j) i [] below
    ∙ ap (λ b. if b then identity_row i else row_of rows i) other

row_up : (e f m : ℕ) (row : List ℚ) (w : Width) → e * f ≡ m → ((j : ℕ) → (fraction_in row j).denominator ∣ e)
    → row_size e row w * f ≤ row_size m row w
row_up e f m row w is each =
    let up = λ (j n : ℕ). up_const (size_over e (fraction_in row j)) (size_over m (fraction_in row j)) n f (size_up e f m
    (fraction_in row j) is (each j)) in
    sum_scaled _ _ _ _ (size_over e (fraction_in row 4) * w.denominator) _ _ _ _ (size_over m (fraction_in row 4) * w.denominator) f
    (up 0 (size_in w 0)) (up 1 (size_in w 1)) (up 2 (size_in w 2)) (up 3 (size_in w 3)) (up 4 w.denominator)

rows_reset : (stage : Stage) (rows : List (List ℚ)) (k : ℕ) (rest : List Op) → is_used (used_from rest) k ≡ false
    → Eases stage (Linear rows ∷ rest) (Linear (reset_row rows k) ∷ rest)
unfolding stage_after used_before fractions_width fractions_peak
rows_reset stage rows k rest free =
    let used = used_from rest in
    let new = reset_row rows k in
    let e = rows_denominator new in
    let m = rows_denominator rows in
    let f = m / e in
    let is = quotient_of e m (rows_divide new m (rows_positive rows) (reset_over rows k)) in
    let row_is = λ (i : ℕ) (below : i < 4) (u : is_used used i ≡ true). by_place {P = row_of new i ≡ row_of rows i} i k
    (λ same. absurd (one_unused (is_used used) i k u free same)) (other_row rows k i below) in
    one_fractions stage (Linear rows) (Linear new) rest refl refl
    (λ typed. four_part (λ i. any_of_four (λ j. is_used used j && takes (row_of new j) i)) (λ i. any_of_four
    (λ j. is_used used j && takes (row_of rows j) i))
    (λ i below t. any_found (λ j. is_used used j && takes (row_of new j) i) t
    (λ j inside v. (let p = and_parts (is_used used j) (takes (row_of new j) i) v in
    any_from (λ l. is_used used l && takes (row_of rows l) i) j inside
    (and_from _ _ p.0 (sym (ap (λ r. takes r i) (row_is j inside p.0)) ∙ p.1))))))
    (λ s. (let up = λ (i : ℕ) (below : i < 4) (u : is_used used i ≡ true).
    subst (λ (r : List ℚ). row_size e (row_of new i) s.width * f ≤ row_size m r s.width) (row_is i below u)
    (row_up e f m (row_of new i) s.width is (rows_each new i)) in
    below_of used f (s.width.denominator * e) (s.width.denominator * m) (λ i. row_size e (row_of new i) s.width)
    (λ i. row_size m (row_of rows i) s.width) _ _ (up_same s.width.denominator e f m is) up
    (max_scaled (s.peak * e) _ f (s.peak * m) _ (up_times s.peak e f m is)
    (greatest_scaled (λ i. if is_used used i then row_size e (row_of new i) s.width else 0)
    (λ i. if is_used used i then row_size m (row_of rows i) s.width else 0) f
    (λ i below. if_both (is_used used i) (is_used used i) _ _ f (λ u. u) (up i below))))))

other_index : (from : List ℕ) (k i : ℕ) → i < 4 → nat_eq i k ≡ false → slice_index (reset_index from k) i ≡ slice_index from i
other_index from k i below other =
    get_or-four (λ j. if nat_eq j k then j else slice_index from j) i 0 below ∙ ap (λ b. if b then i else slice_index from i) other

indices_reset : (stage : Stage) (from : List ℕ) (k : ℕ) (rest : List Op) → is_used (used_from rest) k ≡ false
    → Eases stage (Swizzle from ∷ rest) (Swizzle (reset_index from k) ∷ rest)
unfolding stage_after fractions_width fractions_peak
indices_reset stage from k rest free =
    let used = used_from rest in
    let new = reset_index from k in
    let index_is = λ (i : ℕ) (below : i < 4) (u : is_used used i ≡ true). by_place {P = slice_index new i ≡ slice_index from i} i k
    (λ same. absurd (one_unused (is_used used) i k u free same)) (other_index from k i below) in
    one_fractions stage (Swizzle from) (Swizzle new) rest refl refl
    (λ typed. index_part new [] used (used_before (Swizzle from) used)
    (λ j below u inside. taken_index from used j (slice_index new j) below inside u (sym (index_is j below u))))
    (λ s. below_of used 1 s.width.denominator s.width.denominator (λ i. size_in s.width (slice_index new i))
    (λ i. size_in s.width (slice_index from i)) s.peak s.peak (omega arith)
    (λ i below u. same_times (size_in s.width (slice_index new i)) (size_in s.width (slice_index from i)) (ap (size_in s.width)
    (index_is i below u)))
    (omega arith))
  where
    same_times : (a b : ℕ) → a ≡ b → a * 1 ≤ b
    same_times a b is = omega (arith, is)

pub reset_unused_easing : IsEasing (λ stage ranges ops. reset_unused ops)
unfolding reset_unused
reset_unused_easing stage ranges (Linear rows ∷ rest) change is =
    let test = λ (i : ℕ). not (is_used (used_from rest) i) && not (is_identity_row i (row_of rows i)) in
    option_and_then_some _ (lowest test) change is
    (λ i first same.
    (let p = and_parts (not (is_used (used_from rest) i)) (not (is_identity_row i (row_of rows i))) (lowest_passes test i first).1 in
    by_change stage (Linear rows ∷ rest) _ change same (rows_reset stage rows i rest (from_not _ p.0))))
reset_unused_easing stage ranges (Swizzle from ∷ rest) change is =
    let test = λ (i : ℕ). not (is_used (used_from rest) i) && not (nat_eq (slice_index from i) i) in
    option_and_then_some _ (lowest test) change is
    (λ i first same.
    (let p = and_parts (not (is_used (used_from rest) i)) (not (nat_eq (slice_index from i) i)) (lowest_passes test i first).1 in
    by_change stage (Swizzle from ∷ rest) _ change same (indices_reset stage from i rest (from_not _ p.0))))
reset_unused_easing stage ranges _ change is = absurd (none-some change is)
