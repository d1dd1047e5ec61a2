-- No dither where the used values are whole.
use Rattle.std.proofs.Common.{◌≡◌, ℕ, ◌<◌, Bool, true, not, ◌&&◌, ◌||◌, List, [], ◌∷◌, subst, refl, sym, ◌∙◌, ap, arith}
use Rattle.std.specs.Prelude.{None}
use Rattle.std.proofs.lemmas.Option.{same_Some, none-some}
use Rattle.std.proofs.lemmas.Bool.{and_parts}
use Rattle.frac_math.specs.Fraction.{ℚ, nat, whole, floor, ◌+ℚ◌}
use Rattle.frac_math.specs.Dither.{dither_at}
use Rattle.frac_math.proofs.DitherLaws.{dither_floor}
use Rattle.frac_math.proofs.Floor.{floor_whole}
use Rattle.op_list.specs.declared.types.Stage.{Stage}
use Rattle.op_list.specs.declared.position.PixelPosition.{PixelPosition}
use Rattle.op_list.specs.declared.op.Op.{Op}
use Rattle.op_list.specs.declared.op.Op.TheVariants.{Dither}
use Rattle.op_list.specs.declared.values.Values.{Values}
use Rattle.op_list.specs.declared.values.Values.TheVariants.{Fractions}
use Rattle.op_list.specs.Types.{is_rational}
use Rattle.op_list.specs.Typing.{may_follow, stage_after, stage_from, are_typed}
use Rattle.op_list.specs.Values.{four, fraction, are_fractions}
use Rattle.op_list.specs.Apply.{apply}
use Rattle.op_list.specs.Run.{run_from}
use Rattle.op_range.specs.declared.range.ValueRange.{ValueRange}
use Rattle.op_range.specs.Ranges.{range_in, is_whole_number}
use Rattle.op_range.specs.Within.{AreWithin}
use Rattle.op_range.specs.Used.{is_used, used_from}
use Rattle.op_list.proofs.Four.{get_or-four}
use Rattle.op_range.proofs.Within.{fraction_at, whole_is}
use Rattle.op_opt.specs.declared.change.Change.{Change}
use Rattle.op_opt.specs.DropDither.{lead_to_floors, drop_dither}
use Rattle.op_opt.specs.OfFour.{all_of_four}
use Rattle.op_opt.specs.Weight.{weight, weight_of}
use Rattle.op_list.proofs.Typed.{typed_parts}
use Rattle.op_list.proofs.Wholes.{last_behind}
use Rattle.op_opt.proofs.Replacing.{IsSound, Replaces, Replacement}
use Rattle.op_opt.proofs.Floors.{SameFloors, floors_free}
use Rattle.op_opt.proofs.PassedTests.{chosen, if_used, all_at}

-- a whole number and any dither
dithered_floor : (k x y : ℕ) (z : ℚ) → is_whole_number z ≡ true → floor z ≡ floor (z +ℚ dither_at k x y)
dithered_floor k x y z h =
    let is : z ≡ whole z.numerator = whole_is z h in
    ap floor is ∙ floor_whole z.numerator ∙ sym (dither_floor k x y z.numerator) ∙ sym (ap (λ u. floor (u +ℚ dither_at k x y)) is)

same_floors : (ranges : List ValueRange) (used : List Bool) (k x y : ℕ) (v : Values) → are_fractions v ≡ true → AreWithin ranges v
    → all_of_four (λ i. not (is_used used i) || (range_in ranges i).whole) ≡ true → SameFloors used v (Fractions (four
    (λ i. fraction v i +ℚ dither_at k x y)))
same_floors ranges used k x y v kind within test = record {
  first = kind;
  second = refl;
  floors = λ i below u.
      dithered_floor k x y (fraction v i)
      ((fraction_at ranges v i kind below within).integral (if_used (is_used used i) _ (all_at (λ j. not (is_used used j) ||
      (range_in ranges j).whole) i below test) u))
      ∙ sym (ap floor (get_or-four (λ j. fraction v j +ℚ dither_at k x y) i (nat 0) below));
}

lighter : (k : ℕ) → weight [] < weight (Dither k ∷ [])
unfolding weight weight_of
lighter k = omega arith

typed : (stage : Stage) (k : ℕ) → are_typed stage (Dither k ∷ []) ≡ true
    → (are_typed stage [] ≡ true) × (stage_from stage [] ≡ stage_from stage (Dither k ∷ []))
unfolding are_typed stage_from stage_after
typed stage k h = (refl, refl)

rational : (stage : Stage) (k : ℕ) (rest : List Op) → are_typed stage (Dither k ∷ rest) ≡ true → is_rational stage ≡ true
unfolding may_follow
rational stage k rest h = (typed_parts stage (Dither k) rest h).0

rest_typed : (stage : Stage) (k : ℕ) (rest : List Op) → are_typed stage (Dither k ∷ rest) ≡ true → are_typed stage rest ≡ true
unfolding stage_after
rest_typed stage k rest h = (typed_parts stage (Dither k) rest h).2

run_dither : (frame : List ℕ) (position : PixelPosition) (stage : Stage) (k : ℕ) (rest : List Op) (v : Values)
    → run_from frame position stage rest (Fractions (four
    (λ i. fraction v i +ℚ dither_at k position.x position.y))) ≡ run_from frame position stage (Dither k ∷ rest) v
unfolding run_from apply stage_after
run_dither frame position stage k rest v = refl

replaces : (stage : Stage) (ranges : List ValueRange) (k : ℕ) (rest : List Op) → all_of_four (λ i. not (is_used (used_from rest) i) ||
    (range_in ranges i).whole) ≡ true → lead_to_floors rest ≡ true
    → Replaces stage ranges (Dither k ∷ []) None rest
replaces stage ranges k rest test lead = record {
  inner = refl;
  unread = refl;
  lighter = lighter k;
  typed = typed stage k;
  same = λ frame position v at.
      floors_free frame position stage rest v _ lead (rest_typed stage k rest at.typed) (last_behind (Dither k) rest refl at.last)
      (same_floors ranges (used_from rest) k position.x position.y v (at.kind ∙ rational stage k rest at.typed) at.within test)
      ∙ run_dither frame position stage k rest v;
}

pub drop_dither_sound : IsSound (λ stage ranges ops. drop_dither ranges ops)
unfolding drop_dither
drop_dither_sound stage ranges (Dither k ∷ rest) change is =
    let test = λ (i : ℕ). not (is_used (used_from rest) i) || (range_in ranges i).whole in
    let c = chosen (all_of_four test && lead_to_floors rest) _ change is in
    let p = and_parts (all_of_four test) (lead_to_floors rest) c.0 in
    subst (λ (d : Change). Replacement stage ranges (Dither k ∷ rest) d) (same_Some _ change c.1)
    (record { old = Dither k ∷ []; rest = rest; split = refl; behind = refl; replaces = replaces stage ranges k rest p.0 p.1 })
drop_dither_sound stage ranges _ change is = absurd (none-some change is)
