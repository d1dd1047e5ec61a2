-- Drop an idle operation.
use Rattle.std.proofs.Common.{◌≡◌, ℕ, ◌*◌, ◌/◌, ◌%◌, ◌^◌, ◌<◌, Bool, true, false, not, ◌||◌, List, [], ◌∷◌, nat_eq, eqb-true, mod-eq_of_lt}
use Rattle.std.proofs.Common.{subst, refl, sym, ◌∙◌, ap, arith}
use Rattle.std.specs.Prelude.{Option, Some, None, slice_index}
use Rattle.std.proofs.lemmas.Option.{same_Some, none-some}
use Rattle.std.proofs.lemmas.Bool.{and_parts}
use Rattle.frac_math.specs.Fraction.{ℚ, nat, ◌*ℚ◌}
use Rattle.frac_math.proofs.FractionRing.{equal_is, mul-one}
use Rattle.op_list.specs.declared.types.PixType.{PixType}
use Rattle.op_list.specs.declared.types.PixType.TheVariants.{U8, U16, U32, Rat}
use Rattle.op_list.specs.declared.types.Stage.{Stage}
use Rattle.op_list.specs.declared.types.Stage.TheVariants.{Typed}
use Rattle.op_list.specs.declared.op.Op.{Op}
use Rattle.op_list.specs.declared.op.Op.TheVariants.{Clear, LeftShift, RightShift, Swizzle, Convert}
use Rattle.op_list.specs.declared.op.Op.TheVariants.{Linear, Scale, Min, Max}
use Rattle.op_list.specs.declared.values.Values.{Values}
use Rattle.op_list.specs.declared.values.Values.TheVariants.{Numbers, Fractions}
use Rattle.op_list.specs.Types.{bits_at, is_whole, is_rational, has_type}
use Rattle.op_list.specs.Typing.{may_follow, stage_after, are_typed}
use Rattle.op_list.specs.Values.{number, fraction, fraction_in, entry, are_fractions}
use Rattle.op_list.specs.Apply.{apply, cleared, cleared_number, cleared_fraction, swizzled, as_numbers, converted, at_most, at_least}
use Rattle.op_list.specs.Apply.{row_of, row_value}
use Rattle.op_list.specs.Identity.{is_identity_row}
use Rattle.op_list.proofs.Applied.{whole_not_rational}
use Rattle.op_list.proofs.Typed.{typed_parts}
use Rattle.op_range.specs.declared.range.ValueRange.{ValueRange}
use Rattle.op_range.specs.Within.{AreSmall}
use Rattle.op_range.specs.Used.{is_used, is_missing, used_from, Agree}
use Rattle.op_range.proofs.Agreeing.{agree_self}
use Rattle.op_opt.specs.declared.change.Change.{Change}
use Rattle.op_opt.specs.OfFour.{all_of_four}
use Rattle.op_opt.specs.DropIdle.{are_missing, is_idle, drop_idle}
use Rattle.op_opt.proofs.PassedTests.{chosen, if_used, all_at}
use Rattle.op_opt.proofs.LinearRows.{identity_value}
use Rattle.op_opt.proofs.Unchanged.{agree_with_numbers, agree_with_fractions, dropped}
use Rattle.op_opt.proofs.Replacing.{IsSound, Replaces, Replacement}

-- ---- numbers
kept : (count n : ℕ) → n < 2 ^ count → n ≡ n * 1 % 2 ^ count
kept count n below = let one : n * 1 ≡ n = omega arith in sym (ap (λ k. k % 2 ^ count) one ∙ mod-eq_of_lt below)

left_kept : (count n k : ℕ) → nat_eq k 0 ≡ true → n < 2 ^ count → n ≡ n * 2 ^ k % 2 ^ count
left_kept count n k none below = kept count n below ∙ sym (ap (λ j. n * 2 ^ j % 2 ^ count) (eqb-true k 0 none))

right_kept : (n k : ℕ) → nat_eq k 0 ≡ true → n ≡ n / 2 ^ k
right_kept n k none = let one : n / 1 ≡ n = omega arith in sym (ap (λ j. n / 2 ^ j) (eqb-true k 0 none) ∙ one)

-- ---- entries that are not given
no_clear : (e : Option ℚ) (n : ℕ) → is_missing e ≡ true → n ≡ cleared_number e n
no_clear None n h = refl
no_clear (Some x) n h = absurd (cc)

no_clear_fraction : (e : Option ℚ) (x : ℚ) → is_missing e ≡ true → x ≡ cleared_fraction e x
no_clear_fraction None x h = refl
no_clear_fraction (Some y) x h = absurd (cc)

no_min : (e : Option ℚ) (x : ℚ) → is_missing e ≡ true → x ≡ at_most e x
no_min None x h = refl
no_min (Some y) x h = absurd (cc)

no_max : (e : Option ℚ) (x : ℚ) → is_missing e ≡ true → x ≡ at_least e x
no_max None x h = refl
no_max (Some y) x h = absurd (cc)

cleared_kept : (entries : List (Option ℚ)) (used : List Bool) (v : Values) → are_missing entries ≡ true → Agree used v (cleared entries v)
cleared_kept entries used (Numbers v) h =
    agree_with_numbers used (Numbers v) (λ i. cleared_number (entry entries i) (slice_index v i)) refl
    (λ i below u. no_clear (entry entries i) (slice_index v i) (all_at (λ j. is_missing (entry entries j)) i below h))
cleared_kept entries used (Fractions v) h =
    agree_with_fractions used (Fractions v) (λ i. cleared_fraction (entry entries i) (fraction_in v i)) refl
    (λ i below u. no_clear_fraction (entry entries i) (fraction_in v i) (all_at (λ j. is_missing (entry entries j)) i below h))

-- ---- used values that stay in place
in_place : (from : List ℕ) (used : List Bool) (i : ℕ) → i < 4 → all_of_four (λ j. not (is_used used j) || nat_eq
    (slice_index from j) j) ≡ true → is_used used i ≡ true
    → i ≡ slice_index from i
in_place from used i below h u = sym (eqb-true (slice_index from i) i (if_used (is_used used i) _ (all_at
    (λ j. not (is_used used j) || nat_eq (slice_index from j) j) i below h) u))

swizzled_kept : (from : List ℕ) (used : List Bool) (v : Values) → all_of_four (λ j. not (is_used used j) || nat_eq
    (slice_index from j) j) ≡ true → Agree used v (swizzled from v)
swizzled_kept from used (Numbers v) h =
    agree_with_numbers used (Numbers v) (λ i. slice_index v (slice_index from i)) refl (λ i below u. ap (slice_index v)
    (in_place from used i below h u))
swizzled_kept from used (Fractions v) h =
    agree_with_fractions used (Fractions v) (λ i. fraction_in v (slice_index from i)) refl (λ i below u. ap (fraction_in v)
    (in_place from used i below h u))

-- ---- a Convert to the type before
whole_kept : (count : ℕ) (used : List Bool) (v : Values) → are_fractions v ≡ false → ((i : ℕ) → i < 4 → number v i < 2 ^ count)
    → Agree used v (as_numbers false count v)
whole_kept count used (Numbers v) kind small =
    agree_with_numbers used (Numbers v) (λ i. slice_index v i * 1 % 2 ^ count) refl (λ i below u. kept count (slice_index v i)
    (small i below))
whole_kept count used (Fractions v) kind small = absurd (cc)

rational_kept : (used : List Bool) (v : Values) → are_fractions v ≡ true → Agree used v (converted Rat false v)
rational_kept used (Fractions v) kind = agree_self used (Fractions v)
rational_kept used (Numbers v) kind = absurd (cc)

converted_kept : (to : PixType) (stage : Stage) (used : List Bool) (v : Values) → has_type to stage ≡ true
    → are_fractions v ≡ is_rational stage → AreSmall stage v
    → Agree used v (converted to false v)
converted_kept U8 (Typed U8) used v is kind small = whole_kept 8 used v kind small.each
converted_kept U16 (Typed U16) used v is kind small = whole_kept 16 used v kind small.each
converted_kept U32 (Typed U32) used v is kind small = whole_kept 32 used v kind small.each
converted_kept Rat (Typed Rat) used v is kind small = rational_kept used v kind
converted_kept _ _ used v is kind small = absurd (cc)

same_stage : (to : PixType) (stage : Stage) → has_type to stage ≡ true → Typed to ≡ stage
same_stage U8 (Typed U8) is = refl
same_stage U16 (Typed U16) is = refl
same_stage U32 (Typed U32) is = refl
same_stage Rat (Typed Rat) is = refl
same_stage _ _ is = absurd (cc)

-- ---- each operation
whole_here : (stage : Stage) (op : Op) (rest : List Op) (v : Values) → are_typed stage (op ∷ rest) ≡ true
    → may_follow stage op ≡ is_whole stage
    → are_fractions v ≡ is_rational stage → are_fractions v ≡ false
whole_here stage op rest v typed follows kind = kind ∙ whole_not_rational stage (sym follows ∙ (typed_parts stage op rest typed).0)

rational_here : (stage : Stage) (op : Op) (rest : List Op) (v : Values) → are_typed stage (op ∷ rest) ≡ true
    → may_follow stage op ≡ is_rational stage
    → are_fractions v ≡ is_rational stage → are_fractions v ≡ true
rational_here stage op rest v typed follows kind = kind ∙ sym follows ∙ (typed_parts stage op rest typed).0

idle_dropped : (stage : Stage) (ranges : List ValueRange) (op : Op) (rest : List Op) → is_idle stage (used_from rest) op ≡ true
    → Replaces stage ranges (op ∷ []) None rest
unfolding is_idle apply stage_after may_follow
idle_dropped stage ranges (Clear entries) rest h =
    dropped stage ranges (Clear entries) rest refl refl refl (λ frame position v at. cleared_kept entries (used_from rest) v h)
idle_dropped stage ranges (LeftShift n) rest h =
    dropped stage ranges (LeftShift n) rest refl refl refl
    (λ frame position v at. agree_with_numbers (used_from rest) v (λ i. number v i * 2 ^ n % 2 ^ bits_at stage) (whole_here stage
    (LeftShift n) rest v at.typed refl at.kind)
    (λ i below u. left_kept (bits_at stage) (number v i) n h (at.small.each i below)))
idle_dropped stage ranges (RightShift n) rest h =
    dropped stage ranges (RightShift n) rest refl refl refl
    (λ frame position v at. agree_with_numbers (used_from rest) v (λ i. number v i / 2 ^ n) (whole_here stage
    (RightShift n) rest v at.typed refl at.kind)
    (λ i below u. right_kept (number v i) n h))
idle_dropped stage ranges (Swizzle from) rest h =
    dropped stage ranges (Swizzle from) rest refl refl refl (λ frame position v at. swizzled_kept from (used_from rest) v h)
idle_dropped stage ranges (Convert to true) rest h = absurd (let p = and_parts (has_type to stage) false h in cc)
idle_dropped stage ranges (Convert to false) rest h =
    let is = (and_parts (has_type to stage) true h).0 in
    dropped stage ranges (Convert to false) rest refl refl (same_stage to stage is)
    (λ frame position v at. converted_kept to stage (used_from rest) v is at.kind at.small)
idle_dropped stage ranges (Linear rows) rest h =
    dropped stage ranges (Linear rows) rest refl refl refl
    (λ frame position v at. agree_with_fractions (used_from rest) v (λ i. row_value (row_of rows i) v) (rational_here stage
    (Linear rows) rest v at.typed refl at.kind)
    (λ i below u. identity_value (row_of rows i) i v below
    (if_used (is_used (used_from rest) i) _ (all_at (λ j. not (is_used (used_from rest) j) || is_identity_row j
    (row_of rows j)) i below h) u)))
idle_dropped stage ranges (Scale by) rest h =
    dropped stage ranges (Scale by) rest refl refl refl
    (λ frame position v at. agree_with_fractions (used_from rest) v (λ i. fraction v i *ℚ by) (rational_here stage
    (Scale by) rest v at.typed refl at.kind)
    (λ i below u. sym (ap (λ c. fraction v i *ℚ c) (equal_is by (nat 1) h) ∙ mul-one (fraction v i))))
idle_dropped stage ranges (Min limits) rest h =
    dropped stage ranges (Min limits) rest refl refl refl
    (λ frame position v at. agree_with_fractions (used_from rest) v (λ i. at_most (entry limits i) (fraction v i)) (rational_here stage
    (Min limits) rest v at.typed refl at.kind)
    (λ i below u. no_min (entry limits i) (fraction v i) (all_at (λ j. is_missing (entry limits j)) i below h)))
idle_dropped stage ranges (Max limits) rest h =
    dropped stage ranges (Max limits) rest refl refl refl
    (λ frame position v at. agree_with_fractions (used_from rest) v (λ i. at_least (entry limits i) (fraction v i)) (rational_here stage
    (Max limits) rest v at.typed refl at.kind)
    (λ i below u. no_max (entry limits i) (fraction v i) (all_at (λ j. is_missing (entry limits j)) i below h)))
idle_dropped stage ranges _ rest h = absurd (cc)

pub drop_idle_sound : IsSound (λ stage ranges ops. drop_idle stage ops)
unfolding drop_idle
drop_idle_sound stage ranges [] change is = absurd (none-some change is)
drop_idle_sound stage ranges (op ∷ rest) change is =
    let c = chosen (is_idle stage (used_from rest) op) _ change is in
    subst (λ (d : Change). Replacement stage ranges (op ∷ rest) d) (same_Some _ change c.1)
    (record { old = op ∷ []; rest = rest; split = refl; behind = refl; replaces = idle_dropped stage ranges op rest c.0 })
