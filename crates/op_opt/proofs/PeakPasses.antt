-- Each pass but the join of maps does not raise the peak where it applies.
use Rattle.std.proofs.Common.{◌≡◌, ℕ, zero, suc, ◌+◌, ◌-◌, ◌*◌, ◌<◌, ◌≤◌, Bool, true, false, not, ◌&&◌, if◌then◌else◌, List, [], ◌∷◌}
use Rattle.std.proofs.Common.{All, length, nat_eq, nat_lt, eq-eqb, eqb-true, lt-ltb, sum, subst, refl, sym, ◌∙◌, ap, arith}
use Rattle.std.specs.Prelude.{Some, slice_index}
use Rattle.std.specs.Str.{bytes_eq}
use Rattle.std.proofs.lemmas.Slice.Eq.{bytes_eq-Decides}
use Rattle.std.proofs.lemmas.Option.{same_Some, none-some, option_and_then_some}
use Rattle.std.proofs.lemmas.Bool.{and_from, and_parts, both_ways}
use Rattle.op_list.specs.declared.types.PixType.TheVariants.{U8, U16, U32, Rat}
use Rattle.op_list.specs.declared.types.Stage.{Stage}
use Rattle.op_list.specs.declared.types.Stage.TheVariants.{Start, Typed, Ended}
use Rattle.op_list.specs.declared.op.Op.{Op}
use Rattle.op_list.specs.declared.op.Op.TheVariants.{SwapBytes, Unpack, Pack, LeftShift, RightShift, Swizzle}
use Rattle.op_list.specs.Types.{bits_at, is_rational, is_whole}
use Rattle.op_list.specs.Typing.{may_follow, stage_after, are_typed}
use Rattle.op_list.specs.Values.{four}
use Rattle.op_list.proofs.Applied.{swizzle_lanes}
use Rattle.op_list.proofs.Four.{get_or-four, sum_four}
use Rattle.op_list.proofs.Typed.{typed_parts}
use Rattle.op_range.specs.declared.range.ValueRange.{ValueRange}
use Rattle.op_range.specs.Used.{is_used, any_of_four, used_before, used_from}
use Rattle.op_range.specs.Width.{width_of, size_in}
use Rattle.op_range.specs.Width.{fractions_width}
use Rattle.op_range.proofs.AnyOfFour.{any_from}
use Rattle.op_range.proofs.UsedSteps.{index_below}
use Rattle.op_opt.specs.declared.change.Change.{Change}
use Rattle.op_opt.specs.Changes.{Rule, changed, taking}
use Rattle.op_opt.specs.JoinSwizzles.{join_swizzles}
use Rattle.op_opt.specs.JoinShifts.{shift_between, sum_below, used_have_room, join_shifts}
use Rattle.op_opt.specs.CancelSwaps.{cancel_swaps}
use Rattle.op_opt.specs.CancelPacking.{uses_first_alone, fill, cancel_packing}
use Rattle.op_opt.specs.Peak.{Peaked, fractions_peak, peaked_after}
use Rattle.op_opt.proofs.PassedTests.{chosen, from_not}
use Rattle.op_opt.proofs.PeakSteps.{IsPart, Below, below_of, below_itself, fractions_after}
use Rattle.op_opt.proofs.PeakFronts.{Eases, any_found, part_itself, after_fractions, two_fractions}
use Rattle.op_opt.proofs.PeakFronts.{eases_none}

-- a rule that does not raise the peak where it applies
abbrev pub IsEasing : Rule → Type 0
IsEasing rule = (stage : Stage) (ranges : List ValueRange) (ops : List Op) (change : Change) → rule stage ranges ops ≡ Some change
    → Eases stage ops (changed ops change)

pub by_change : (stage : Stage) (ops : List Op) (made change : Change) → Some made ≡ Some change → Eases stage ops (changed ops made)
    → Eases stage ops (changed ops change)
by_change stage ops made change is h = subst (λ (c : Change). Eases stage ops (changed ops c)) (same_Some made change is) h

-- ---- Swizzle
pub taken_index : (from : List ℕ) (used : List Bool) (i j : ℕ) → i < 4 → j < 4 → is_used used i ≡ true → slice_index from i ≡ j
    → is_used (used_before (Swizzle from) used) j ≡ true
unfolding used_before
taken_index from used i j below inside u is =
    get_or-four (λ l. any_of_four (λ k. is_used used k && nat_eq (slice_index from k) l)) j false inside
    ∙ any_from (λ k. is_used used k && nat_eq (slice_index from k) j) i below (and_from _ _ u (eq-eqb (slice_index from i) j is))

-- what holds of each value that is used before a Swizzle
pub index_part : (from more : List ℕ) (used before : List Bool)
    → ((j : ℕ) → j < 4 → is_used used j ≡ true → slice_index from j < 4 → is_used before (slice_index from j) ≡ true)
    → IsPart (used_before (Swizzle from) used) before
unfolding used_before
index_part from more used before each = record {
  each = λ i below t.
      any_found (λ j. is_used used j && nat_eq (slice_index from j) i)
      (sym (get_or-four (λ l. any_of_four (λ j. is_used used j && nat_eq (slice_index from j) l)) i false below) ∙ t)
      (λ j inside u.
      (let p = and_parts (is_used used j) (nat_eq (slice_index from j) i) u in
      let is = eqb-true (slice_index from j) i p.1 in
      subst (λ (k : ℕ). is_used before k ≡ true) is (each j inside p.0 (subst (λ (k : ℕ). k < 4) (sym is) below))));
}

typed_lanes : (stage : Stage) (from : List ℕ) (rest : List Op) → are_typed stage (Swizzle from ∷ rest) ≡ true → All (λ i. i < 4) from
typed_lanes stage from rest h = swizzle_lanes stage from (typed_parts stage (Swizzle from) rest h).1

swizzles_part : (first second : List ℕ) (used : List Bool) → All (λ i. i < 4) second
    → IsPart (used_before (Swizzle (four (λ i. slice_index first (slice_index second i)))) used)
    (used_before (Swizzle first) (used_before (Swizzle second) used))
swizzles_part first second used good =
    let both = λ (i : ℕ). slice_index first (slice_index second i) in
    index_part (four both) [] used (used_before (Swizzle first) (used_before (Swizzle second) used))
    (λ j below u inside.
    (let is : slice_index (four both) j ≡ both j = get_or-four both j 0 below in
    let middle = index_below second good j in
    taken_index first (used_before (Swizzle second) used) (slice_index second j) (slice_index (four both) j) middle inside
    (taken_index second used j (slice_index second j) below middle u refl) (sym is)))

swizzles_below : (first second : List ℕ) (used before : List Bool) (s : Peaked) → All (λ i. i < 4) second
    → Below used (fractions_after (Swizzle (four (λ i. slice_index first (slice_index second i)))) used s)
    (fractions_after (Swizzle second) used (fractions_after (Swizzle first) before s))
unfolding fractions_width fractions_peak
swizzles_below first second used before s good =
    let both = λ (i : ℕ). slice_index first (slice_index second i) in
    let one = λ (i : ℕ). size_in s.width (slice_index first i) in
    below_of used 1 s.width.denominator s.width.denominator (λ i. size_in s.width (slice_index (four both) i))
    (λ i. size_in (width_of s.width.denominator one) (slice_index second i)) s.peak s.peak (omega arith)
    (λ i below u. same_size (size_in s.width (slice_index (four both) i)) (size_in (width_of s.width.denominator one)
    (slice_index second i))
    (ap (size_in s.width) (get_or-four both i 0 below) ∙ sym (get_or-four one (slice_index second i) 0 (index_below second good i))))
    (omega arith)
  where
    same_size : (a b : ℕ) → a ≡ b → a * 1 ≤ b
    same_size a b is = omega (arith, is)

pub join_swizzles_easing : IsEasing (λ stage ranges ops. join_swizzles ops)
unfolding join_swizzles stage_after
join_swizzles_easing stage ranges (Swizzle first ∷ Swizzle second ∷ rest) change is =
    let made = Swizzle (four (λ i. slice_index first (slice_index second i))) in
    by_change stage (Swizzle first ∷ Swizzle second ∷ rest) _ change is
    (two_fractions stage (Swizzle first) (Swizzle second) made rest refl refl refl
    (λ typed. swizzles_part first second (used_from rest) (typed_lanes stage second rest (typed_parts stage (Swizzle first)
    (Swizzle second ∷ rest) typed).2))
    (λ s typed p. swizzles_below first second (used_from rest) (used_before (Swizzle second) (used_from rest)) s
    (typed_lanes stage second rest (typed_parts stage (Swizzle first) (Swizzle second ∷ rest) typed).2)))
join_swizzles_easing stage ranges _ change is = absurd (none-some change is)

-- ---- shifts and swaps
shifts_eased : (stage : Stage) (a b g : Op) (rest : List Op) (change : Change) → stage_after stage g ≡ stage → stage_after stage a ≡ stage
    → stage_after stage b ≡ stage → IsPart (used_before g (used_from rest)) (used_before a (used_before b (used_from rest)))
    → ((s : Peaked) → Below (used_from rest) (fractions_after g (used_from rest) s)
    (fractions_after b (used_from rest) (fractions_after a (used_before b (used_from rest)) s)))
    → taking 2 (Some g) ≡ Some change → Eases stage (a ∷ b ∷ rest) (changed (a ∷ b ∷ rest) change)
shifts_eased stage a b g rest change sg sa sb part below is =
    by_change stage (a ∷ b ∷ rest) _ change is (two_fractions stage a b g rest sg sa sb (λ typed. part) (λ s typed p. below s))

record IsShift (op : Op) : Type 0 where
  stays : (stage : Stage) → stage_after stage op ≡ stage
  uses : (used : List Bool) → used_before op used ≡ used
  keeps : (used : List Bool) (s : Peaked) → fractions_after op used s ≡ s

left_shift : (n : ℕ) → IsShift (LeftShift n)
unfolding stage_after used_before fractions_width fractions_peak
left_shift n = record { stays = λ stage. refl; uses = λ used. refl; keeps = λ used s. refl }

right_shift : (n : ℕ) → IsShift (RightShift n)
unfolding stage_after used_before fractions_width fractions_peak
right_shift n = record { stays = λ stage. refl; uses = λ used. refl; keeps = λ used s. refl }

two_shifts : (stage : Stage) (a b g : Op) (rest : List Op) (change : Change) → IsShift a → IsShift b → IsShift g
    → taking 2 (Some g) ≡ Some change → Eases stage (a ∷ b ∷ rest) (changed (a ∷ b ∷ rest) change)
two_shifts stage a b g rest change sa sb sg is =
    let used = used_from rest in
    shifts_eased stage a b g rest change (sg.stays stage) (sa.stays stage) (sb.stays stage)
    (subst (λ (u : List Bool). IsPart u (used_before a (used_before b used))) (sym (sg.uses used))
    (subst (λ (u : List Bool). IsPart used u) (sym (sa.uses (used_before b used) ∙ sb.uses used)) (part_itself used)))
    (λ s. subst (λ (t : Peaked). Below used t (fractions_after b used (fractions_after a (used_before b used) s))) (sym (sg.keeps used s))
    (subst (λ (t : Peaked). Below used s t) (sym (sb.keeps used (fractions_after a (used_before b used) s) ∙ sa.keeps
    (used_before b used) s))
    (below_itself used s))) is

between : (a b : ℕ) (t : Bool) → IsShift (if t then LeftShift (a - b) else RightShift (b - a))
between a b true = left_shift (a - b)
between a b false = right_shift (b - a)

pub join_shifts_easing : IsEasing join_shifts
unfolding join_shifts
join_shifts_easing stage ranges (LeftShift a ∷ LeftShift b ∷ rest) change is =
    option_and_then_some _ (sum_below (bits_at stage) a b) change is
    (λ n sum same. two_shifts stage (LeftShift a) (LeftShift b) (LeftShift n) rest change (left_shift a) (left_shift b) (left_shift n) same)
join_shifts_easing stage ranges (RightShift a ∷ RightShift b ∷ rest) change is =
    option_and_then_some _ (sum_below (bits_at stage) a b) change is
    (λ n sum same. two_shifts stage (RightShift a) (RightShift b) (RightShift n) rest change (right_shift a) (right_shift b)
    (right_shift n) same)
join_shifts_easing stage ranges (LeftShift a ∷ RightShift b ∷ rest) change is =
    let c = chosen (used_have_room (bits_at stage) a (used_from rest) ranges) _ change is in
    two_shifts stage (LeftShift a) (RightShift b) (shift_between a b) rest change (left_shift a) (right_shift b) (between a b _) c.1
join_shifts_easing stage ranges _ change is = absurd (none-some change is)

pub quiet : (stage : Stage) (op : Op) (used : List Bool) (s : Peaked) → fractions_after op used s ≡ s → is_rational stage ≡ true
    → peaked_after stage op used s ≡ s
quiet stage op used s is r = after_fractions stage op used s r ∙ is

pub cancel_swaps_easing : IsEasing (λ stage ranges ops. cancel_swaps ops)
unfolding cancel_swaps stage_after used_before fractions_width fractions_peak
cancel_swaps_easing stage ranges (SwapBytes ∷ SwapBytes ∷ rest) change is =
    by_change stage (SwapBytes ∷ SwapBytes ∷ rest) _ change is
    (eases_none stage SwapBytes SwapBytes rest refl refl (λ typed. part_itself (used_from rest))
    (λ s used r. quiet stage SwapBytes used s refl r) (λ s used r. quiet stage SwapBytes used s refl r))
cancel_swaps_easing stage ranges _ change is = absurd (none-some change is)

-- ---- Unpack and Pack
only_first : (used : List Bool) (i : ℕ) → uses_first_alone used ≡ true → i < 4 → is_used used i ≡ true → i ≡ 0
only_first used i alone below u =
    let p = and_parts (not (is_used used 1) && not (is_used used 2)) (not (is_used used 3)) alone in
    let q = and_parts (not (is_used used 1)) (not (is_used used 2)) p.0 in
    at_index i below q.0 q.1 p.1 u
  where
    at_index : (k : ℕ) → k < 4 → not (is_used used 1) ≡ true → not (is_used used 2) ≡ true → not (is_used used 3) ≡ true
        → is_used used k ≡ true → k ≡ 0
    at_index zero h x y z t = refl
    at_index (suc zero) h x y z t = absurd (both_ways (is_used used 1) (from_not _ x) t)
    at_index (suc (suc zero)) h x y z t = absurd (both_ways (is_used used 2) (from_not _ y) t)
    at_index (suc (suc (suc zero))) h x y z t = absurd (both_ways (is_used used 3) (from_not _ z) t)
    at_index (suc (suc (suc (suc k)))) h x y z t = absurd (omega arith)

some_field : {P : Type 0} (ns : List ℕ) → length ns ≡ 4 → 0 < sum ns → ((j : ℕ) → j < 4 → nat_lt 0 (slice_index ns j) ≡ true → P) → P
some_field {P = P} ns size some found = by_first (slice_index ns 0) (slice_index ns 1) (slice_index ns 2)
    (slice_index ns 3) refl refl refl refl
  where
    total : sum ns ≡ slice_index ns 0 + slice_index ns 1 + slice_index ns 2 + slice_index ns 3
    total = sum_four ns size

    by_first : (a b c d : ℕ) → slice_index ns 0 ≡ a → slice_index ns 1 ≡ b → slice_index ns 2 ≡ c → slice_index ns 3 ≡ d → P
    by_first (suc a) b c d ea eb ec ed = found 0 (omega arith) (lt-ltb 0 (slice_index ns 0) (omega (arith, ea)))
    by_first zero (suc b) c d ea eb ec ed = found 1 (omega arith) (lt-ltb 0 (slice_index ns 1) (omega (arith, eb)))
    by_first zero zero (suc c) d ea eb ec ed = found 2 (omega arith) (lt-ltb 0 (slice_index ns 2) (omega (arith, ec)))
    by_first zero zero zero (suc d) ea eb ec ed = found 3 (omega arith) (lt-ltb 0 (slice_index ns 3) (omega (arith, ed)))
    by_first zero zero zero zero ea eb ec ed = absurd (omega (arith, some, total, ea, eb, ec, ed))

packing_part : (fields : List ℕ) (used : List Bool) → length fields ≡ 4 → 0 < sum fields → uses_first_alone used ≡ true
    → IsPart used (used_before (Unpack fields) (used_before (Pack fields) used))
unfolding used_before
packing_part fields used size some alone = record {
  each = λ i below u.
      (let zero_is = only_first used i alone below u in
      let first : is_used used 0 ≡ true = subst (λ (k : ℕ). is_used used k ≡ true) zero_is u in
      let packed = four (λ k. is_used used 0 && nat_lt 0 (slice_index fields k)) in
      let any : any_of_four (λ j. is_used packed j && nat_lt 0 (slice_index fields j)) ≡ true =
      some_field fields size some (λ j inside t. any_from (λ k. is_used packed k && nat_lt 0 (slice_index fields k)) j inside
      (and_from _ _ (get_or-four (λ k. is_used used 0 && nat_lt 0 (slice_index fields k)) j false inside ∙ and_from _ _ first t) t)) in
      subst (λ (k : ℕ). is_used (used_before (Unpack fields) packed) k ≡ true) (sym zero_is) (and_from (nat_eq 0 0) _ refl any));
}

whole_bits : (stage : Stage) → is_whole stage ≡ true → 0 < bits_at stage
whole_bits Start h = absurd (cc)
whole_bits Ended h = absurd (cc)
whole_bits (Typed U8) h = omega arith
whole_bits (Typed U16) h = omega arith
whole_bits (Typed U32) h = omega arith
whole_bits (Typed Rat) h = absurd (cc)

packing_none : (stage : Stage) (fields : List ℕ) (rest : List Op) → length fields ≡ 4 → sum fields ≡ bits_at stage
    → uses_first_alone (used_from rest) ≡ true → Eases stage (Unpack fields ∷ Pack fields ∷ rest) rest
unfolding stage_after fractions_width fractions_peak may_follow
packing_none stage fields rest size fills alone =
    eases_none stage (Unpack fields) (Pack fields) rest refl refl
    (λ typed. packing_part fields (used_from rest) size
    (subst (λ (n : ℕ). 0 < n) (sym fills) (whole_bits stage (typed_parts stage (Unpack fields) (Pack fields ∷ rest) typed).0)) alone)
    (λ s used r. quiet stage (Unpack fields) used s refl r) (λ s used r. quiet stage (Pack fields) used s refl r)

pub cancel_packing_easing : IsEasing (λ stage ranges ops. cancel_packing stage ops)
unfolding cancel_packing
cancel_packing_easing stage ranges (Unpack fields ∷ Pack widths ∷ rest) change is =
    let c = chosen (bytes_eq fields widths && fill (bits_at stage) fields && uses_first_alone (used_from rest)) _ change is in
    let p = and_parts (bytes_eq fields widths && fill (bits_at stage) fields) (uses_first_alone (used_from rest)) c.0 in
    let r = and_parts (bytes_eq fields widths) (fill (bits_at stage) fields) p.0 in
    let q = and_parts (nat_eq (length fields) 4) (nat_eq (sum fields) (bits_at stage)) r.1 in
    let same : fields ≡ widths = (bytes_eq-Decides fields widths).0 r.0 in
    by_change stage (Unpack fields ∷ Pack widths ∷ rest) _ change c.1
    (subst (λ (ws : List ℕ). Eases stage (Unpack fields ∷ Pack ws ∷ rest) rest) same
    (packing_none stage fields rest (eqb-true (length fields) 4 q.0) (eqb-true (sum fields) (bits_at stage) q.1) p.1))
cancel_packing_easing stage ranges _ change is = absurd (none-some change is)
