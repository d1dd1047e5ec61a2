-- From a whole type to a whole type without a fraction between.
use Rattle.std.proofs.Common.{◌≡◌, ℕ, ◌*◌, ◌%◌, ◌^◌, ◌<◌, Bool, true, false, not, ◌&&◌, List, [], ◌∷◌, pos, subst, refl, sym, ◌∙◌, ap}
use Rattle.std.proofs.Common.{arith}
use Rattle.std.specs.Prelude.{Some, slice_index}
use Rattle.std.proofs.lemmas.Option.{same_Some, none-some}
use Rattle.std.proofs.lemmas.Bool.{and_parts, and_from}
use Rattle.frac_math.specs.Fraction.{nat, floor}
use Rattle.frac_math.proofs.Floor.{floor_whole}
use Rattle.op_list.specs.declared.types.PixType.{PixType}
use Rattle.op_list.specs.declared.types.PixType.TheVariants.{U8, U16, U32, Rat}
use Rattle.op_list.specs.declared.types.Stage.{Stage}
use Rattle.op_list.specs.declared.types.Stage.TheVariants.{Typed}
use Rattle.op_list.specs.declared.position.PixelPosition.{PixelPosition}
use Rattle.op_list.specs.declared.op.Op.{Op}
use Rattle.op_list.specs.declared.op.Op.TheVariants.{Convert}
use Rattle.op_list.specs.declared.values.Values.{Values}
use Rattle.op_list.specs.declared.values.Values.TheVariants.{Numbers, Fractions}
use Rattle.op_list.specs.Types.{is_whole, is_whole_type, is_same}
use Rattle.op_list.specs.Typing.{may_follow, are_good, stage_after, stage_from, are_typed}
use Rattle.op_list.specs.Values.{four, fraction_in, are_fractions}
use Rattle.op_list.specs.Whole.{modulo}
use Rattle.op_list.specs.Apply.{apply, as_numbers, converted}
use Rattle.op_list.specs.Run.{run_from}
use Rattle.op_list.proofs.Applied.{whole_not_rational}
use Rattle.op_range.specs.declared.range.ValueRange.{ValueRange}
use Rattle.op_list.proofs.Four.{get_or-four, same_four}
use Rattle.op_opt.specs.declared.change.Change.{Change}
use Rattle.op_opt.specs.SkipFraction.{skip_fraction}
use Rattle.op_opt.specs.Weight.{weight, weight_of}
use Rattle.op_list.proofs.Typed.{typed_parts}
use Rattle.op_opt.proofs.PassedTests.{chosen}
use Rattle.op_opt.proofs.Replacing.{IsSound, Replaces, Replacement}

lighter : (to : PixType) (first expand : Bool) → weight (Convert to false ∷ []) < weight (Convert Rat first ∷ Convert to expand ∷ [])
unfolding weight weight_of
lighter to first expand = omega arith

typed : (stage : Stage) (to : PixType) (first expand : Bool) → are_typed stage (Convert Rat first ∷ Convert to expand ∷ []) ≡ true
    → (are_typed stage (Convert to false ∷ []) ≡ true) × (stage_from stage (Convert to false ∷ []) ≡ stage_from stage (Convert Rat first
    ∷ Convert to expand ∷ []))
unfolding are_typed stage_from may_follow are_good stage_after
typed stage to first expand h = let t = typed_parts stage (Convert Rat first) (Convert to expand ∷ []) h in
    (and_from _ true (and_from _ true t.0 refl) refl, refl)

-- ---- the values
number_same : (count n : ℕ) → n * 1 % 2 ^ count ≡ modulo (floor (nat n)) (2 ^ count)
number_same count n = let e : n * 1 ≡ n = omega arith in ap (λ k. k % 2 ^ count) e ∙ sym (ap (λ z. modulo z (2 ^ count)) (floor_whole
    (pos n)))

numbers_same : (count : ℕ) (first expand : Bool) (v : Values) → are_fractions v ≡ false
    → as_numbers false count v ≡ as_numbers expand count (converted Rat first v)
numbers_same count first expand (Numbers v) kind =
    ap Numbers (same_four (λ i. slice_index v i * 1 % 2 ^ count) (λ i. modulo (floor (fraction_in (four (λ j. nat (slice_index v j))) i))
    (2 ^ count))
    (λ i below. number_same count (slice_index v i) ∙ sym (ap (λ x. modulo (floor x) (2 ^ count)) (get_or-four
    (λ j. nat (slice_index v j)) i (nat 0) below))))
numbers_same count first expand (Fractions v) kind = absurd (cc)

converted_same : (to : PixType) (first expand : Bool) (v : Values) → is_whole_type to ≡ true → are_fractions v ≡ false
    → converted to false v ≡ converted to expand (converted Rat first v)
converted_same U8 first expand v is kind = numbers_same 8 first expand v kind
converted_same U16 first expand v is kind = numbers_same 16 first expand v kind
converted_same U32 first expand v is kind = numbers_same 32 first expand v kind
converted_same Rat first expand v is kind = absurd (cc)

same : (frame : List ℕ) (position : PixelPosition) (stage : Stage) (to : PixType) (first expand : Bool) (rest : List Op) (v : Values)
    → is_whole_type to ≡ true → are_fractions v ≡ false
    → run_from frame position stage (Convert to false ∷ rest) v ≡ run_from frame position stage (Convert Rat first ∷ Convert to expand
    ∷ rest) v
unfolding run_from apply stage_after
same frame position stage to first expand rest v is kind = ap (λ w. run_from frame position (Typed to) rest w)
    (converted_same to first expand v is kind)

replaces : (stage : Stage) (ranges : List ValueRange) (to : PixType) (first expand : Bool) (rest : List Op) → is_whole stage ≡ true
    → is_whole_type to ≡ true
    → Replaces stage ranges (Convert Rat first ∷ Convert to expand ∷ []) (Some (Convert to false)) rest
replaces stage ranges to first expand rest whole is = record {
  inner = refl;
  unread = refl;
  lighter = lighter to first expand;
  typed = typed stage to first expand;
  same = λ frame position v at. same frame position stage to first expand rest v is (at.kind ∙ whole_not_rational stage whole);
}

found : (stage : Stage) (ranges : List ValueRange) (by to : PixType) (first expand : Bool) (rest : List Op) → is_whole stage ≡ true
    → is_same by Rat ≡ true → is_whole_type to ≡ true
    → Replaces stage ranges (Convert by first ∷ Convert to expand ∷ []) (Some (Convert to false)) rest
found stage ranges Rat to first expand rest whole is to_whole = replaces stage ranges to first expand rest whole to_whole
found stage ranges U8 to first expand rest whole is to_whole = absurd (cc)
found stage ranges U16 to first expand rest whole is to_whole = absurd (cc)
found stage ranges U32 to first expand rest whole is to_whole = absurd (cc)

pub skip_fraction_sound : IsSound (λ stage ranges ops. skip_fraction stage ops)
unfolding skip_fraction
skip_fraction_sound stage ranges (Convert by first ∷ Convert to expand ∷ rest) change is =
    let c = chosen (is_whole stage && is_same by Rat && is_whole_type to && not expand) _ change is in
    let p = and_parts (is_whole stage && is_same by Rat && is_whole_type to) (not expand) c.0 in
    let q = and_parts (is_whole stage && is_same by Rat) (is_whole_type to) p.0 in
    let r = and_parts (is_whole stage) (is_same by Rat) q.0 in
    subst (λ (d : Change). Replacement stage ranges (Convert by first ∷ Convert to expand ∷ rest) d) (same_Some _ change c.1)
    (record {
      old = Convert by first ∷ Convert to expand ∷ [];
      rest = rest;
      split = refl;
      behind = refl;
      replaces =
          found stage ranges by to first expand rest r.0 r.1 q.1;
    })
skip_fraction_sound stage ranges _ change is = absurd (none-some change is)
