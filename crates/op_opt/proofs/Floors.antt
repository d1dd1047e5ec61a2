-- Values with the same floors where they are used: they stay so up to a Convert to a whole type, which makes them the same.
use Rattle.std.proofs.Common.{◌≡◌, ℕ, ◌^◌, ◌<◌, Bool, true, false, ◌&&◌, List, ◌∷◌, All, nat_eq, eq-eqb, refl, sym, ◌∙◌, ap}
use Rattle.std.specs.Prelude.{Option, Some, None, slice_index}
use Rattle.std.specs.Int.{int_min, int_max}
use Rattle.std.proofs.lemmas.Bool.{and_parts, and_from}
use Rattle.frac_math.specs.Fraction.{ℚ, nat, whole, floor, min_ℚ, max_ℚ}
use Rattle.frac_math.proofs.Floor.{floor_min, floor_max}
use Rattle.op_list.specs.declared.types.PixType.{PixType}
use Rattle.op_list.specs.declared.types.PixType.TheVariants.{U8, U16, U32, Rat}
use Rattle.op_list.specs.declared.types.Stage.{Stage}
use Rattle.op_list.specs.declared.position.PixelPosition.{PixelPosition}
use Rattle.op_list.specs.declared.op.Op.{Op}
use Rattle.op_list.specs.declared.op.Op.TheVariants.{Clear, Swizzle, Convert, Min, Max}
use Rattle.op_list.specs.declared.values.Values.{Values}
use Rattle.op_list.specs.declared.values.Values.TheVariants.{Numbers, Fractions}
use Rattle.op_list.specs.Types.{is_whole_type}
use Rattle.op_list.specs.Typing.{stage_after, are_typed, ends_with_write}
use Rattle.op_list.specs.Values.{four, fraction, fraction_in, entry, are_fractions}
use Rattle.op_list.specs.Whole.{modulo}
use Rattle.op_list.specs.Apply.{apply, cleared, cleared_fraction, swizzled, as_numbers, converted, at_most, at_least}
use Rattle.op_list.specs.Run.{run_from}
use Rattle.op_list.proofs.Applied.{swizzle_lanes}
use Rattle.op_range.specs.Ranges.{is_whole_limit}
use Rattle.op_range.specs.Used.{is_used, any_of_four, is_missing, used_before, used_from, Agree}
use Rattle.op_list.proofs.Four.{get_or-four}
use Rattle.op_range.proofs.AnyOfFour.{any_from}
use Rattle.op_range.proofs.Agreeing.{agree_numbers}
use Rattle.op_range.proofs.Within.{whole_is}
use Rattle.op_range.proofs.UsedSteps.{index_below, unused_free}
use Rattle.op_opt.specs.DropDither.{are_whole, lead_to_floors}
use Rattle.op_opt.proofs.PassedTests.{all_at}
use Rattle.op_list.proofs.Typed.{typed_parts}
use Rattle.op_list.proofs.Wholes.{last_behind}

pub record SameFloors (used : List Bool) (v w : Values) : Type 0 where
  pub first : are_fractions v ≡ true
  pub second : are_fractions w ≡ true
  pub floors : (i : ℕ) → i < 4 → is_used used i ≡ true → floor (fraction v i) ≡ floor (fraction w i)

floors_of : (used : List Bool) (f g : ℕ → ℚ) → ((i : ℕ) → i < 4 → is_used used i ≡ true → floor (f i) ≡ floor (g i))
    → SameFloors used (Fractions (four f)) (Fractions (four g))
floors_of used f g same = record {
  first = refl;
  second = refl;
  floors = λ i below u. ap floor (get_or-four f i (nat 0) below) ∙ same i below u ∙ sym (ap floor (get_or-four g i (nat 0) below));
}

-- ---- Min and Max with whole limits
min_floor : (limit : Option ℚ) (x y : ℚ) → is_whole_limit limit ≡ true → floor x ≡ floor y
    → floor (at_most limit x) ≡ floor (at_most limit y)
min_floor None x y h e = e
min_floor (Some l) x y h e =
    let is : l ≡ whole l.numerator = whole_is l h in
    ap (λ k. floor (min_ℚ x k)) is ∙ floor_min x l.numerator ∙ ap (λ z. int_min z l.numerator) e ∙ sym (floor_min y l.numerator)
    ∙ sym (ap (λ k. floor (min_ℚ y k)) is)

max_floor : (limit : Option ℚ) (x y : ℚ) → is_whole_limit limit ≡ true → floor x ≡ floor y
    → floor (at_least limit x) ≡ floor (at_least limit y)
max_floor None x y h e = e
max_floor (Some l) x y h e =
    let is : l ≡ whole l.numerator = whole_is l h in
    ap (λ k. floor (max_ℚ x k)) is ∙ floor_max x l.numerator ∙ ap (λ z. int_max z l.numerator) e ∙ sym (floor_max y l.numerator)
    ∙ sym (ap (λ k. floor (max_ℚ y k)) is)

-- ---- Clear and Swizzle
cleared_floor : (e : Option ℚ) (x y : ℚ) → (is_missing e ≡ true → floor x ≡ floor y)
    → floor (cleared_fraction e x) ≡ floor (cleared_fraction e y)
cleared_floor None x y h = h refl
cleared_floor (Some c) x y h = refl

cleared_floors : (entries : List (Option ℚ)) (used : List Bool) (v w : Values) → SameFloors (four (λ i. is_used used i
    && is_missing (entry entries i))) v w → SameFloors used (cleared entries v) (cleared entries w)
cleared_floors entries used (Fractions v) (Fractions w) h =
    let flag = λ (i : ℕ). is_used used i && is_missing (entry entries i) in
    floors_of used (λ i. cleared_fraction (entry entries i) (fraction_in v i)) (λ i. cleared_fraction (entry entries i) (fraction_in w i))
    (λ i below u. cleared_floor (entry entries i) (fraction_in v i) (fraction_in w i)
    (λ t. h.floors i below (get_or-four flag i false below ∙ and_from (is_used used i) (is_missing (entry entries i)) u t)))
cleared_floors entries used (Numbers v) w h = absurd (let k = h.first in cc)
cleared_floors entries used (Fractions v) (Numbers w) h = absurd (let k = h.second in cc)

swizzled_floors : (from : List ℕ) (used : List Bool) (v w : Values) → All (λ i. i < 4) from → SameFloors (four (λ i. any_of_four
    (λ j. is_used used j && nat_eq (slice_index from j) i))) v w
    → SameFloors used (swizzled from v) (swizzled from w)
swizzled_floors from used (Fractions v) (Fractions w) good h =
    let test = λ (i j : ℕ). is_used used j && nat_eq (slice_index from j) i in
    floors_of used (λ i. fraction_in v (slice_index from i)) (λ i. fraction_in w (slice_index from i))
    (λ i below u. h.floors (slice_index from i) (index_below from good i) (get_or-four (λ k. any_of_four (test k))
    (slice_index from i) false (index_below from good i)
    ∙ any_from (test (slice_index from i)) i below (and_from (is_used used i) (nat_eq (slice_index from i) (slice_index from i)) u
    (eq-eqb (slice_index from i) (slice_index from i) refl))))
swizzled_floors from used (Numbers v) w good h = absurd (let k = h.first in cc)
swizzled_floors from used (Fractions v) (Numbers w) good h = absurd (let k = h.second in cc)

-- ---- Convert
numbers_of_floors : (count : ℕ) (expand : Bool) (used : List Bool) (v w : Values) → SameFloors used v w
    → Agree used (as_numbers expand count v) (as_numbers expand count w)
numbers_of_floors count expand used (Fractions v) (Fractions w) h =
    agree_numbers used (λ i. modulo (floor (fraction_in v i)) (2 ^ count)) (λ i. modulo (floor (fraction_in w i)) (2 ^ count))
    (λ i below u. ap (λ z. modulo z (2 ^ count)) (h.floors i below u))
numbers_of_floors count expand used (Numbers v) w h = absurd (let k = h.first in cc)
numbers_of_floors count expand used (Fractions v) (Numbers w) h = absurd (let k = h.second in cc)

converted_floors : (to : PixType) (expand : Bool) (used : List Bool) (v w : Values) → is_whole_type to ≡ true → SameFloors used v w
    → Agree used (converted to expand v) (converted to expand w)
converted_floors U8 expand used v w is h = numbers_of_floors 8 expand used v w h
converted_floors U16 expand used v w is h = numbers_of_floors 16 expand used v w h
converted_floors U32 expand used v w is h = numbers_of_floors 32 expand used v w h
converted_floors Rat expand used v w is h = absurd (cc)

-- ---- up to the Convert
pub floors_free : (frame : List ℕ) (position : PixelPosition) (stage : Stage) (ops : List Op) (v w : Values) → lead_to_floors ops ≡ true
    → are_typed stage ops ≡ true → ends_with_write ops ≡ true
    → SameFloors (used_from ops) v w → run_from frame position stage ops v ≡ run_from frame position stage ops w
unfolding lead_to_floors used_from used_before run_from apply
floors_free frame position stage (Convert to expand ∷ rest) v w lead typed last h =
    let t = typed_parts stage (Convert to expand) rest typed in
    unused_free frame position (stage_after stage (Convert to expand)) rest _ _ t.2 (last_behind (Convert to expand) rest refl last)
    (converted_floors to expand (used_from rest) v w lead h)
floors_free frame position stage (Swizzle from ∷ rest) v w lead typed last h =
    let t = typed_parts stage (Swizzle from) rest typed in
    floors_free frame position (stage_after stage (Swizzle from)) rest _ _ lead t.2 (last_behind (Swizzle from) rest refl last)
    (swizzled_floors from (used_from rest) v w (swizzle_lanes stage from t.1) h)
floors_free frame position stage (Clear entries ∷ rest) v w lead typed last h =
    let t = typed_parts stage (Clear entries) rest typed in
    let l = and_parts (are_whole entries) (lead_to_floors rest) lead in
    floors_free frame position (stage_after stage (Clear entries)) rest _ _ l.1 t.2 (last_behind (Clear entries) rest refl last)
    (cleared_floors entries (used_from rest) v w h)
floors_free frame position stage (Min limits ∷ rest) v w lead typed last h =
    let t = typed_parts stage (Min limits) rest typed in
    let l = and_parts (are_whole limits) (lead_to_floors rest) lead in
    floors_free frame position (stage_after stage (Min limits)) rest _ _ l.1 t.2 (last_behind (Min limits) rest refl last)
    (floors_of (used_from rest) (λ i. at_most (entry limits i) (fraction v i)) (λ i. at_most (entry limits i) (fraction w i))
    (λ i below u. min_floor (entry limits i) (fraction v i) (fraction w i) (all_at (λ j. is_whole_limit (entry limits j)) i below l.0)
    (h.floors i below u)))
floors_free frame position stage (Max limits ∷ rest) v w lead typed last h =
    let t = typed_parts stage (Max limits) rest typed in
    let l = and_parts (are_whole limits) (lead_to_floors rest) lead in
    floors_free frame position (stage_after stage (Max limits)) rest _ _ l.1 t.2 (last_behind (Max limits) rest refl last)
    (floors_of (used_from rest) (λ i. at_least (entry limits i) (fraction v i)) (λ i. at_least (entry limits i) (fraction w i))
    (λ i below u. max_floor (entry limits i) (fraction v i) (fraction w i) (all_at (λ j. is_whole_limit (entry limits j)) i below l.0)
    (h.floors i below u)))
floors_free frame position stage _ v w lead typed last h = absurd (cc)
