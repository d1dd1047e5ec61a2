-- The states of a list enclose it.
use Rattle.std.proofs.Common.{◌≡◌, ℕ, ◌<◌, ◌≤◌, Bool, true, false, List, [], ◌∷◌, All, sym, ◌∙◌, subst, refl, arith}
use Rattle.op_list.specs.declared.types.Stage.{Stage}
use Rattle.op_list.specs.declared.types.Stage.TheVariants.{Start}
use Rattle.op_list.specs.declared.position.PixelPosition.{PixelPosition}
use Rattle.op_list.specs.declared.op.Op.{Op}
use Rattle.op_list.specs.declared.op.Op.TheVariants.{Write}
use Rattle.op_list.specs.declared.values.Values.{Values}
use Rattle.op_list.specs.Typing.{are_good, stage_after, are_typed, ends_with_write, is_write}
use Rattle.op_list.specs.Types.{is_rational}
use Rattle.op_list.specs.Values.{no_values, are_fractions}
use Rattle.op_list.specs.Apply.{apply}
use Rattle.op_list.proofs.Steps.{apply_kind}
use Rattle.op_list.proofs.Wholes.{before_other}
use Rattle.op_range.specs.declared.range.ValueRange.{ValueRange}
use Rattle.op_range.specs.Used.{is_used, used_from, Agree}
use Rattle.op_range.specs.Ranges.{range_in, only_zero, ranges_after, start_ranges}
use Rattle.op_range.specs.Within.{value_of, IsWithin, FirstAreWithin, AreWithin, value_count}
use Rattle.op_range.specs.States.{state_of, states_from, ranges_of, used_of, OthersAreFree, EnclosesRun}
use Rattle.op_range.specs.Laws.{MayStand, StatesEnclose}
use Rattle.op_list.proofs.Typed.{typed_parts}
use Rattle.op_range.proofs.UsedSteps.{unused_free}
use Rattle.op_range.proofs.RangeSteps.{ranges_enclose, write_count}
use Rattle.op_list.proofs.Four.{get_or-four}
use Rattle.op_range.proofs.Within.{numbers_within, zero_only}

pub all_left : (op : Op) → is_write op ≡ false → value_count op ≡ 4
all_left (Write elem planes) h = absurd (cc)
all_left _ h = refl

count_most : (stage : Stage) (op : Op) → are_good stage op ≡ true → value_count op ≤ 4
count_most stage (Write elem planes) good = write_count stage elem planes good
count_most stage _ good = omega arith

-- ---- a state and the ranges and flags that it is made of
held : (count : ℕ) (ranges : List ValueRange) (used : List Bool) (values : Values) → count ≤ 4 → FirstAreWithin count ranges values
    → FirstAreWithin count (ranges_of (state_of ranges used)) values
held count ranges used values few w = record {
  each = λ i below.
      (let within_four : i < 4 = omega arith in
      subst (λ (r : ValueRange). IsWithin r (value_of values i)) (sym (get_or-four (λ j. range_in ranges j) i only_zero within_four))
      (w.each i below));
}

agree_used : (ranges : List ValueRange) (used : List Bool) (v w : Values) → Agree (used_of (state_of ranges used)) v w → Agree used v w
agree_used ranges used v w h = record {
  kind = h.kind;
  numbers = λ i below u. h.numbers i below (get_or-four (λ j. is_used used j) i false below ∙ u);
  fractions = λ i below u. h.fractions i below (get_or-four (λ j. is_used used j) i false below ∙ u);
}

others_free : (frame : List ℕ) (position : PixelPosition) (stage : Stage) (ops : List Op) (ranges : List ValueRange) (values : Values)
    → are_typed stage ops ≡ true → ends_with_write ops ≡ true
    → OthersAreFree frame position stage ops (used_of (state_of ranges (used_from ops))) values
others_free frame position stage [] ranges values typed last = tt
others_free frame position stage (op ∷ ops) ranges values typed last =
    λ other agree. sym (unused_free frame position stage (op ∷ ops) values other typed last
    (agree_used ranges (used_from (op ∷ ops)) values other agree))

-- ---- along a list
encloses_from : (frame : List ℕ) (position : PixelPosition) (stage : Stage) (ops : List Op) (values : Values) (ranges : List ValueRange)
    → All (λ byte. byte < 256) frame
    → are_typed stage ops ≡ true → ends_with_write ops ≡ true → are_fractions values ≡ is_rational stage → AreWithin ranges values
    → EnclosesRun frame position stage ops values (states_from stage ops ranges)
unfolding states_from ends_with_write
encloses_from frame position stage [] values ranges bytes typed last kind w = absurd (cc)
encloses_from frame position stage (op ∷ []) values ranges bytes typed last kind w =
    let t = typed_parts stage op [] typed in
    let may : MayStand frame stage op values = record { bytes = bytes; follows = t.0; good = t.1; kind = kind } in (
      held (value_count op) (ranges_after stage op ranges) (used_from []) _ (count_most stage op t.1)
          (ranges_enclose frame position stage op ranges values may w),
      tt,
      refl,
    )
encloses_from frame position stage (op ∷ next ∷ ops) values ranges bytes typed last kind w =
    let t = typed_parts stage op (next ∷ ops) typed in
    let may : MayStand frame stage op values = record { bytes = bytes; follows = t.0; good = t.1; kind = kind } in
    let after = ranges_enclose frame position stage op ranges values may w in
    let all : AreWithin (ranges_after stage op ranges) (apply frame position stage op values) =
    subst (λ (n : ℕ). FirstAreWithin n (ranges_after stage op ranges) (apply frame position stage op values))
    (all_left op (before_other stage op next ops typed)) after in (
      held (value_count op) (ranges_after stage op ranges) (used_from (next ∷ ops)) _ (count_most stage op t.1) after,
      others_free frame position (stage_after stage op) (next ∷ ops) (ranges_after stage op ranges) _ t.2 last,
      encloses_from frame position (stage_after stage op) (next ∷ ops) _ _ bytes t.2 last
          (apply_kind frame position stage op values kind t.0 t.1) all,
    )

pub states_enclose : StatesEnclose
states_enclose ops typed last frame position bytes =
    encloses_from frame position Start ops no_values start_ranges bytes typed last refl
    (numbers_within (λ i. only_zero) (λ i. 0) (λ i below. zero_only))
