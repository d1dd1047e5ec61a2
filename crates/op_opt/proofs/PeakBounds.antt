-- How the peak of a list is bounded: by the states after its operations on fractions where every value counts as used.
use Rattle.std.proofs.Common.{◌≡◌, ℕ, ◌-◌, ◌*◌, ◌^◌, ◌<◌, ◌≤◌, Bool, true, false, ◌||◌, if◌then◌else◌, List, [], ◌∷◌, ◌++◌, max, pow_mono}
use Rattle.std.proofs.Common.{nat_lt, ltb-true, subst, refl, sym, ◌∙◌, ap, arith}
use Rattle.std.specs.Prelude.{Option, Some, None}
use Rattle.std.specs.List.{list_all}
use Rattle.std.specs.Option.{option_and_then}
use Rattle.std.proofs.lemmas.Bool.{and_parts}
use Rattle.std.proofs.lemmas.Option.{same_Some, none-some, option_and_then_some}
use Rattle.std.proofs.Math.Nat.{mul-le-mul_left}
use Prim.Native.Nat.{◌∣◌}
use Rattle.frac_math.specs.Fraction.{ℚ}
use Rattle.op_list.specs.declared.types.PixType.{PixType}
use Rattle.op_list.specs.declared.types.PixType.TheVariants.{U8, U16, U32, Rat}
use Rattle.op_list.specs.declared.types.Stage.{Stage}
use Rattle.op_list.specs.declared.types.Stage.TheVariants.{Typed}
use Rattle.op_list.specs.declared.op.Op.{Op}
use Rattle.op_list.specs.declared.op.Op.TheVariants.{Read, Write, SwapBytes, Unpack, Pack, Clear, LeftShift, RightShift, Swizzle}
use Rattle.op_list.specs.declared.op.Op.TheVariants.{Convert, Dither, Linear, Scale, Min, Max}
use Rattle.op_list.specs.Types.{is_rational, is_whole_type, bits_at}
use Rattle.op_list.specs.Typing.{stage_after, stage_from, are_typed}
use Rattle.op_list.specs.Values.{four, entry}
use Rattle.op_list.proofs.Four.{get_or-four}
use Rattle.op_list.proofs.Typed.{typed_parts}
use Rattle.op_range.specs.Used.{used_before, used_from}
use Rattle.op_range.specs.Width.{entries_denominator, limited_width, fractions_width, whole_width, width_after, has_fractions}
use Rattle.op_opt.specs.Peak.{Peaked, greatest_of_four, given_size, entries_peak, fractions_peak, peaked_after, peak_from}
use Rattle.op_opt.proofs.PeakSteps.{IsPart, Below, step_below, dithers_below, peaked, below_of, fractions_after}
use Rattle.op_opt.proofs.PeakFronts.{no_more, next_positive, after_fractions}

-- ---- every value counts as used
abbrev pub all_used : List Bool
all_used = four (λ i. true)

part_of_all : (used : List Bool) → IsPart used all_used
part_of_all used = record { each = λ i below u. get_or-four (λ k. true) i false below }

below_on : (less used : List Bool) (s t : Peaked) → IsPart less used → Below used s t → Below less s t
below_on less used s t part b = record {
  ratio = b.ratio;
  denominator = b.denominator;
  sizes = λ i below u. b.sizes i below (part.each i below u);
  peak = b.peak;
}

-- the state after an operation on fractions, where its peak is below 2^126
unfoldable pub small_after : Op → Peaked → Option Peaked
small_after op s = let after = fractions_after op all_used s in if nat_lt after.peak (2 ^ 126) then Some after else None

-- that after some operations, where each peak on the way is
unfoldable pub small_from : List Op → Peaked → Option Peaked
small_from [] s = Some s
small_from (op ∷ ops) s = option_and_then (λ next. small_from ops next) (small_after op s)

-- an operation that leaves the type as it is
abbrev pub keeps_stage : Op → Bool
keeps_stage (Read elem planes palette) = false
keeps_stage (Write elem planes) = false
keeps_stage (Convert to expand) = false
keeps_stage _ = true

stage_kept : (stage : Stage) (op : Op) → keeps_stage op ≡ true → stage_after stage op ≡ stage
unfolding stage_after
stage_kept stage (Read elem planes palette) h = absurd (cc)
stage_kept stage (Write elem planes) h = absurd (cc)
stage_kept stage SwapBytes h = refl
stage_kept stage (Unpack widths) h = refl
stage_kept stage (Pack widths) h = refl
stage_kept stage (Clear entries) h = refl
stage_kept stage (LeftShift n) h = refl
stage_kept stage (RightShift n) h = refl
stage_kept stage (Swizzle from) h = refl
stage_kept stage (Convert to expand) h = absurd (cc)
stage_kept stage (Dither k) h = refl
stage_kept stage (Linear rows) h = refl
stage_kept stage (Scale by) h = refl
stage_kept stage (Min limits) h = refl
stage_kept stage (Max limits) h = refl

-- ---- one operation more
both_small : (b : Bool) (m n cap : ℕ) → m < cap → n < cap → max (if b then m else 0) n < cap
both_small true m n cap h k = omega (arith, h, k)
both_small false m n cap h k = omega (arith, h, k)

pub peak_most : (used : List Bool) (s t : Peaked) → 0 < t.width.denominator → Below used s t → s.peak ≤ t.peak
peak_most used s t p b = no_more s.peak b.ratio t.peak s.width.denominator t.width.denominator b.denominator p b.peak

one_small : (stage : Stage) (op : Op) (rest : List Op) (s : Peaked) → stage_after stage op ≡ stage
    → (peaked_after stage op (used_from rest) s).peak < 2 ^ 126
    → peak_from stage rest (peaked_after stage op (used_from rest) s) < 2 ^ 126 → peak_from stage (op ∷ rest) s < 2 ^ 126
unfolding peak_from
one_small stage op rest s is small behind =
    let after = peaked_after stage op (used_from rest) s in
    subst (λ (n : Stage). max (if is_rational n then after.peak else 0) (peak_from n rest after) < 2 ^ 126) (sym is)
    (both_small (is_rational stage) after.peak (peak_from stage rest after) (2 ^ 126) small behind)

-- A state that is not above another whose peak is small.
pub record IsUnder (s most : Peaked) : Type 0 where
  pub positive : 0 < s.width.denominator
  pub most_positive : 0 < most.width.denominator
  pub below : Below all_used s most
  pub small : most.peak < 2 ^ 126

pub behind_one : (stage : Stage) (op : Op) (rest : List Op) (s most : Peaked) → stage_after stage op ≡ stage
    → are_typed stage (op ∷ rest) ≡ true
    → IsUnder (peaked_after stage op (used_from rest) s) most
    → ((left : Peaked) → are_typed stage rest ≡ true → IsUnder left most → peak_from stage rest left < 2 ^ 126)
    → peak_from stage (op ∷ rest) s < 2 ^ 126
behind_one stage op rest s most is typed under behind =
    let after = peaked_after stage op (used_from rest) s in
    let less = peak_most all_used after most under.most_positive under.below in
    one_small stage op rest s is (omega (arith, less, under.small))
    (behind after (subst (λ (n : Stage). are_typed n rest ≡ true) is (typed_parts stage op rest typed).2) under)

test_some : {A P : Type 0} (b : Bool) (x y : A) → (if b then Some x else None) ≡ Some y → (b ≡ true → x ≡ y → P) → P
test_some true x y h use_it = use_it refl (same_Some x y h)
test_some false x y h use_it = absurd (none-some y h)

pub small_step : (stage : Stage) (op : Op) (rest : List Op) (s t next : Peaked) → is_rational stage ≡ true → keeps_stage op ≡ true
    → are_typed stage (op ∷ rest) ≡ true → IsUnder s t → small_after op t ≡ Some next
    → ((left : Peaked) → are_typed stage rest ≡ true → IsUnder left next → peak_from stage rest left < 2 ^ 126)
    → peak_from stage (op ∷ rest) s < 2 ^ 126
unfolding small_after
small_step stage op rest s t next r keeps typed under is behind =
    let parts = typed_parts stage op rest typed in
    let kept = stage_kept stage op keeps in
    let used = used_from rest in
    let last = peaked_after stage op all_used t in
    let fractions : last ≡ fractions_after op all_used t = after_fractions stage op all_used t r in
    let below : Below all_used (peaked_after stage op used s) last =
    step_below stage op used all_used s t parts.0 parts.1 under.positive under.most_positive (part_of_all used)
    (λ _. below_on (used_before op all_used) all_used s t (part_of_all (used_before op all_used)) under.below)
    (ap is_rational kept ∙ r) in
    test_some (nat_lt (fractions_after op all_used t).peak (2 ^ 126)) (fractions_after op all_used t) next is (λ small same.
    let most : last ≡ next = fractions ∙ same in
    behind_one stage op rest s next kept typed
    (record {
      positive = next_positive stage op used s under.positive;
      most_positive = subst (λ (m : Peaked). 0 < m.width.denominator) most (next_positive stage op all_used t under.most_positive);
      below = subst (λ (m : Peaked). Below all_used (peaked_after stage op used s) m) most below;
      small = subst (λ (m : Peaked). m.peak < 2 ^ 126) same (ltb-true _ _ small);
    })
    behind)

-- some operations more, from a state that is not above t
pub small_along : (stage : Stage) (ops rest : List Op) (s t last : Peaked) → is_rational stage ≡ true → list_all keeps_stage ops ≡ true
    → are_typed stage (ops ++ rest) ≡ true → IsUnder s t → small_from ops t ≡ Some last
    → ((left : Peaked) → are_typed stage rest ≡ true → IsUnder left last → peak_from stage rest left < 2 ^ 126)
    → peak_from stage (ops ++ rest) s < 2 ^ 126
unfolding small_from
small_along stage [] rest s t last r keeps typed under is behind =
    behind s typed (subst (λ (m : Peaked). IsUnder s m) (same_Some t last is) under)
small_along stage (op ∷ ops) rest s t last r keeps typed under is behind =
    let kept = and_parts (keeps_stage op) (list_all keeps_stage ops) keeps in
    option_and_then_some _ (small_after op t) last is (λ next first others.
    small_step stage op (ops ++ rest) s t next r kept.0 typed under first (λ left left_typed left_under.
    small_along stage ops rest left next last r kept.1 left_typed left_under others behind))

-- a dither whose places are among those of a larger one
pub dither_step : (stage : Stage) (k most : ℕ) (rest : List Op) (s t next : Peaked) → is_rational stage ≡ true
    → 2 * 4 ^ k ∣ 2 * 4 ^ most → are_typed stage (Dither k ∷ rest) ≡ true → IsUnder s t → small_after (Dither most) t ≡ Some next
    → ((left : Peaked) → are_typed stage rest ≡ true → IsUnder left next → peak_from stage rest left < 2 ^ 126)
    → peak_from stage (Dither k ∷ rest) s < 2 ^ 126
unfolding small_after
dither_step stage k most rest s t next r places typed under is behind =
    let used = used_from rest in
    let first : peaked_after stage (Dither k) used s ≡ fractions_after (Dither k) used s = after_fractions stage (Dither k) used s r in
    let last = fractions_after (Dither most) all_used t in
    let last_is : peaked_after stage (Dither most) all_used t ≡ last = after_fractions stage (Dither most) all_used t r in
    let below : Below all_used (fractions_after (Dither k) used s) last =
    dithers_below k most used all_used s t places under.positive under.most_positive under.below in
    test_some (nat_lt last.peak (2 ^ 126)) last next is (λ small same.
    behind_one stage (Dither k) rest s next (stage_kept stage (Dither k) refl) typed
    (record {
      positive = next_positive stage (Dither k) used s under.positive;
      most_positive = subst (λ (m : Peaked). 0 < m.width.denominator) (last_is ∙ same)
          (next_positive stage (Dither most) all_used t under.most_positive);
      below = subst (λ (m : Peaked). Below all_used (peaked_after stage (Dither k) used s) m) same
          (subst (λ (m : Peaked). Below all_used m last) (sym first) below);
      small = subst (λ (m : Peaked). m.peak < 2 ^ 126) same (ltb-true _ _ small);
    })
    behind)

-- ---- operations on whole numbers
neither : (a b : Bool) → (a || b) ≡ false → (a ≡ false) × (b ≡ false)
neither true b h = absurd (cc)
neither false b h = (refl, h)

no_head : (b : Bool) (m n : ℕ) → b ≡ false → max (if b then m else 0) n ≡ n
no_head true m n h = absurd (cc)
no_head false m n h = omega arith

-- they leave the peak to what stands behind
pub whole_front : (stage : Stage) (front rest : List Op) (s : Peaked) → has_fractions stage front ≡ false → 0 < s.width.denominator
    → ((left : Peaked) → 0 < left.width.denominator → peak_from (stage_from stage front) rest left < 2 ^ 126)
    → peak_from stage (front ++ rest) s < 2 ^ 126
unfolding peak_from has_fractions stage_from
whole_front stage [] rest s whole positive behind = behind s positive
whole_front stage (op ∷ front) rest s whole positive behind =
    let next = stage_after stage op in
    let parts = neither (is_rational next) (has_fractions next front) whole in
    let after = peaked_after stage op (used_from (front ++ rest)) s in
    subst (λ (n : ℕ). n < 2 ^ 126) (sym (no_head (is_rational next) after.peak (peak_from next (front ++ rest) after) parts.0))
    (whole_front next front rest after parts.1 (next_positive stage op (used_from (front ++ rest)) s positive) behind)

pub no_peak : (stage : Stage) (ops : List Op) (s : Peaked) → has_fractions stage ops ≡ false → peak_from stage ops s ≡ 0
unfolding peak_from has_fractions
no_peak stage [] s whole = refl
no_peak stage (op ∷ ops) s whole =
    let next = stage_after stage op in
    let parts = neither (is_rational next) (has_fractions next ops) whole in
    let after = peaked_after stage op (used_from ops) s in
    no_head (is_rational next) after.peak (peak_from next ops after) parts.0 ∙ no_peak next ops after parts.1

-- an operation behind which whole numbers are whole numbers
abbrev pub leaves_whole : Op → Bool
leaves_whole (Read elem planes palette) = is_whole_type elem
leaves_whole (Convert to expand) = is_whole_type to
leaves_whole _ = true

pub whole_no_fractions : (elem : PixType) → is_whole_type elem ≡ true → is_rational (Typed elem) ≡ false
whole_no_fractions U8 h = refl
whole_no_fractions U16 h = refl
whole_no_fractions U32 h = refl
whole_no_fractions Rat h = absurd (cc)

whole_after : (stage : Stage) (op : Op) → is_rational stage ≡ false → leaves_whole op ≡ true → is_rational (stage_after stage op) ≡ false
unfolding stage_after
whole_after stage (Read elem planes palette) w h = whole_no_fractions elem h
whole_after stage (Write elem planes) w h = refl
whole_after stage SwapBytes w h = w
whole_after stage (Unpack widths) w h = w
whole_after stage (Pack widths) w h = w
whole_after stage (Clear entries) w h = w
whole_after stage (LeftShift n) w h = w
whole_after stage (RightShift n) w h = w
whole_after stage (Swizzle from) w h = w
whole_after stage (Convert to expand) w h = whole_no_fractions to h
whole_after stage (Dither k) w h = w
whole_after stage (Linear rows) w h = w
whole_after stage (Scale by) w h = w
whole_after stage (Min limits) w h = w
whole_after stage (Max limits) w h = w

both_false : (a b : Bool) → a ≡ false → b ≡ false → (a || b) ≡ false
both_false true b h k = absurd (cc)
both_false false b h k = k

pub whole_list : (stage : Stage) (ops : List Op) → is_rational stage ≡ false → list_all leaves_whole ops ≡ true
    → has_fractions stage ops ≡ false
unfolding has_fractions
whole_list stage [] w h = refl
whole_list stage (op ∷ ops) w h =
    let parts = and_parts (leaves_whole op) (list_all leaves_whole ops) h in
    let next = whole_after stage op w parts.0 in
    both_false (is_rational (stage_after stage op)) (has_fractions (stage_after stage op) ops) next
    (whole_list (stage_after stage op) ops next parts.1)

-- whole numbers of so many bits
abbrev pub whole_peaked : ℕ → Peaked
whole_peaked count = peaked (whole_width count) (2 ^ count - 1)

whole_below : (few many : ℕ) → few ≤ many → Below all_used (whole_peaked few) (whole_peaked many)
whole_below few many h =
    below_of all_used 1 1 1 (λ i. 2 ^ few - 1) (λ i. 2 ^ many - 1) (2 ^ few - 1) (2 ^ many - 1) refl
    (λ i below u. omega (arith, pow_mono h)) (omega (arith, pow_mono h))

after_whole : (stage : Stage) (op : Op) (used : List Bool) (s : Peaked) → is_rational stage ≡ false
    → peaked_after stage op used s ≡ whole_peaked (bits_at stage)
unfolding peaked_after width_after
after_whole stage op used s w =
    ap (λ (b : Bool). peaked (if b then fractions_width op s.width else whole_width (bits_at stage)) (if b then fractions_peak op used s
    else 2 ^ bits_at stage - 1)) w

first_small : (few many : ℕ) → few ≤ many → many ≤ 32 → 2 ^ few - 1 < 2 ^ 126
first_small few many h k =
    let most : 2 ^ few ≤ 2 ^ many = pow_mono h in let up : 2 ^ many ≤ 2 ^ 32 = pow_mono k in omega (arith, most, up)

-- they become fractions
pub from_whole : (stage : Stage) (many : ℕ) (rest : List Op) (s : Peaked) → is_rational stage ≡ false → bits_at stage ≤ many → many ≤ 32
    → are_typed stage (Convert Rat false ∷ rest) ≡ true
    → ((left : Peaked) → are_typed (Typed Rat) rest ≡ true → IsUnder left (whole_peaked many) → peak_from (Typed Rat) rest left < 2 ^ 126)
    → peak_from stage (Convert Rat false ∷ rest) s < 2 ^ 126
unfolding peak_from stage_after
from_whole stage many rest s w few most typed behind =
    let after = peaked_after stage (Convert Rat false) (used_from rest) s in
    let is = after_whole stage (Convert Rat false) (used_from rest) s w in
    subst (λ (left : Peaked). max left.peak (peak_from (Typed Rat) rest left) < 2 ^ 126) (sym is)
    (both_small true (2 ^ bits_at stage - 1) (peak_from (Typed Rat) rest (whole_peaked (bits_at stage))) (2 ^ 126)
    (first_small (bits_at stage) many few most)
    (behind (whole_peaked (bits_at stage)) (typed_parts stage (Convert Rat false) rest typed).2
    (record {
      positive = omega arith;
      most_positive = omega arith;
      below = whole_below (bits_at stage) many few;
      small = first_small many many (omega arith) most;
    })))

-- ---- limits that are whole numbers
-- the limits that are given are whole numbers, at most so great
pub record AreLimits (limits : List (Option ℚ)) (most : ℕ) : Type 0 where
  pub denominator : entries_denominator limits ≡ 1
  pub sizes : (i d : ℕ) → i < 4 → given_size 1 d (entry limits i) ≤ most * d

four_small : (f : ℕ → ℕ) (m : ℕ) → ((i : ℕ) → i < 4 → f i ≤ m) → greatest_of_four f ≤ m
four_small f m each = omega (arith, each 0 (omega arith), each 1 (omega arith), each 2 (omega arith), each 3 (omega arith))

entries_small : (limits : List (Option ℚ)) (most : ℕ) (s : Peaked) → AreLimits limits most
    → entries_peak limits s ≤ max s.peak (most * s.width.denominator)
entries_small limits most s are =
    subst (λ (e : ℕ). max (s.peak * e) (greatest_of_four (λ i. given_size e s.width.denominator (entry limits i)))
    ≤ max s.peak (most * s.width.denominator)) (sym are.denominator)
    (let greatest = four_small (λ i. given_size 1 s.width.denominator (entry limits i)) (most * s.width.denominator)
    (λ i below. are.sizes i s.width.denominator below) in
    omega (arith, greatest))

-- A state whose peak is small, also beside limits.
pub record IsLow (most : ℕ) (s : Peaked) : Type 0 where
  pub peak : s.peak < 2 ^ 126
  pub limits : most * s.width.denominator < 2 ^ 126

-- a state below one that is
pub low_under : (most : ℕ) (s t : Peaked) → IsUnder s t → most * t.width.denominator < 2 ^ 126 → IsLow most s
low_under most s t under small = record {
  peak = omega (arith, peak_most all_used s t under.most_positive under.below, under.small);
  limits =
      (let d = s.width.denominator in
      let fewer = no_more d under.below.ratio t.width.denominator d t.width.denominator under.below.denominator under.most_positive
      (omega (arith, under.below.denominator)) in
      omega (arith, mul-le-mul_left most fewer, small));
}

abbrev limited : List (Option ℚ) → Peaked → Peaked
limited limits s = peaked (limited_width limits s.width) (entries_peak limits s)

low_after : (limits : List (Option ℚ)) (most : ℕ) (s : Peaked) → AreLimits limits most → IsLow most s → IsLow most (limited limits s)
low_after limits most s are low = record {
  peak = omega (arith, entries_small limits most s are, low.peak, low.limits);
  limits = subst (λ (e : ℕ). most * (s.width.denominator * e) < 2 ^ 126) (sym are.denominator)
      (let one : s.width.denominator * 1 ≡ s.width.denominator = omega arith in
      subst (λ (d : ℕ). most * d < 2 ^ 126) (sym one) low.limits);
}

limits_step : (stage : Stage) (op : Op) (limits : List (Option ℚ)) (most : ℕ) (rest : List Op) (s : Peaked)
    → stage_after stage op ≡ stage → peaked_after stage op (used_from rest) s ≡ limited limits s → AreLimits limits most → IsLow most s
    → ((left : Peaked) → IsLow most left → peak_from stage rest left < 2 ^ 126) → peak_from stage (op ∷ rest) s < 2 ^ 126
limits_step stage op limits most rest s kept is are low behind =
    let after = low_after limits most s are low in
    one_small stage op rest s kept (subst (λ (m : Peaked). m.peak < 2 ^ 126) (sym is) after.peak)
    (subst (λ (m : Peaked). peak_from stage rest m < 2 ^ 126) (sym is) (behind (limited limits s) after))

pub max_step : (stage : Stage) (limits : List (Option ℚ)) (most : ℕ) (rest : List Op) (s : Peaked) → is_rational stage ≡ true
    → AreLimits limits most → IsLow most s → ((left : Peaked) → IsLow most left → peak_from stage rest left < 2 ^ 126)
    → peak_from stage (Max limits ∷ rest) s < 2 ^ 126
unfolding fractions_width fractions_peak
max_step stage limits most rest s r are low behind =
    limits_step stage (Max limits) limits most rest s (stage_kept stage (Max limits) refl)
    (after_fractions stage (Max limits) (used_from rest) s r) are low behind

pub min_step : (stage : Stage) (limits : List (Option ℚ)) (most : ℕ) (rest : List Op) (s : Peaked) → is_rational stage ≡ true
    → AreLimits limits most → IsLow most s → ((left : Peaked) → IsLow most left → peak_from stage rest left < 2 ^ 126)
    → peak_from stage (Min limits ∷ rest) s < 2 ^ 126
unfolding fractions_width fractions_peak
min_step stage limits most rest s r are low behind =
    limits_step stage (Min limits) limits most rest s (stage_kept stage (Min limits) refl)
    (after_fractions stage (Min limits) (used_from rest) s r) are low behind
