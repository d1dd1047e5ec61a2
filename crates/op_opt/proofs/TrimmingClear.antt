-- A Clear without the entry of a value that is not used.
use Rattle.std.proofs.Common.{◌≡◌, ℕ, ◌<◌, Bool, true, false, not, ◌&&◌, ◌||◌, List, [], ◌∷◌, subst, refl, ap, arith}
use Rattle.std.specs.Prelude.{Option, Some, slice_index}
use Rattle.std.proofs.lemmas.Option.{same_Some, none-some, option_and_then_some}
use Rattle.std.proofs.lemmas.Bool.{and_parts, and_from}
use Rattle.frac_math.specs.Fraction.{ℚ}
use Rattle.op_list.specs.declared.types.Stage.{Stage}
use Rattle.op_list.specs.declared.position.PixelPosition.{PixelPosition}
use Rattle.op_list.specs.declared.op.Op.{Op}
use Rattle.op_list.specs.declared.op.Op.TheVariants.{Clear}
use Rattle.op_list.specs.declared.values.Values.{Values}
use Rattle.op_list.specs.declared.values.Values.TheVariants.{Numbers, Fractions}
use Rattle.op_list.specs.Types.{is_rational, bits_at}
use Rattle.op_list.specs.Typing.{may_follow, are_good, stage_after, stage_from, are_typed, all_fit}
use Rattle.op_list.specs.Values.{entry, fraction_in}
use Rattle.op_list.specs.Apply.{apply, cleared, cleared_number, cleared_fraction}
use Rattle.op_list.specs.Run.{run_from}
use Rattle.op_range.specs.declared.range.ValueRange.{ValueRange}
use Rattle.op_range.specs.Used.{is_used, used_from, Agree}
use Rattle.op_range.proofs.Agreeing.{agree_numbers, agree_fractions}
use Rattle.op_opt.specs.declared.change.Change.{Change}
use Rattle.op_opt.specs.Entries.{without, is_given}
use Rattle.op_opt.specs.OfFour.{lowest}
use Rattle.op_opt.specs.TrimClear.{trim_clear}
use Rattle.op_opt.specs.Weight.{weight, weight_of}
use Rattle.op_list.proofs.Typed.{typed_parts}
use Rattle.op_list.proofs.Wholes.{last_behind}
use Rattle.op_opt.proofs.PassedTests.{from_not}
use Rattle.op_opt.proofs.Replacing.{IsSound, Replaces, Replacement, same_by_agreement}
use Rattle.op_opt.proofs.Dropping.{lowest_passes, other_entry, by_place, one_unused, without_fits, fewer_entries}

lighter : (entries : List (Option ℚ)) (i : ℕ) → i < 4 → is_given (entry entries i) ≡ true
    → weight (Clear (without entries i) ∷ []) < weight (Clear entries ∷ [])
unfolding weight weight_of
lighter entries i below h = omega (arith, fewer_entries entries i below h)

or_weaker : (a b c : Bool) → (b ≡ true → c ≡ true) → (a || b) ≡ true → (a || c) ≡ true
or_weaker true b c along h = refl
or_weaker false b c along h = along h

typed : (stage : Stage) (entries : List (Option ℚ)) (i : ℕ) → are_typed stage (Clear entries ∷ []) ≡ true
    → (are_typed stage (Clear (without entries i) ∷ []) ≡ true) × (stage_from stage (Clear (without entries i) ∷ []) ≡ stage_from stage
    (Clear entries ∷ []))
unfolding are_typed stage_from may_follow are_good stage_after
typed stage entries i h =
    let t = typed_parts stage (Clear entries) [] h in (
      and_from _ true (and_from _ _ t.0 (or_weaker (is_rational stage) (all_fit (bits_at stage) entries) (all_fit (bits_at stage)
          (without entries i)) (without_fits (bits_at stage) i entries) t.1)) refl,
      refl,
    )

agrees : (entries : List (Option ℚ)) (i : ℕ) (used : List Bool) (v : Values) → is_used used i ≡ false
    → Agree used (cleared (without entries i) v) (cleared entries v)
agrees entries i used (Numbers v) free =
    agree_numbers used (λ j. cleared_number (entry (without entries i) j) (slice_index v j)) (λ j. cleared_number (entry entries j)
    (slice_index v j))
    (λ j below u. by_place j i (λ e. absurd (one_unused (is_used used) j i u free e)) (λ other. ap
    (λ x. cleared_number x (slice_index v j)) (other_entry entries i j below other)))
agrees entries i used (Fractions v) free =
    agree_fractions used (λ j. cleared_fraction (entry (without entries i) j) (fraction_in v j)) (λ j. cleared_fraction (entry entries j)
    (fraction_in v j))
    (λ j below u. by_place j i (λ e. absurd (one_unused (is_used used) j i u free e)) (λ other. ap
    (λ x. cleared_fraction x (fraction_in v j)) (other_entry entries i j below other)))

after_one : (frame : List ℕ) (position : PixelPosition) (stage : Stage) (entries : List (Option ℚ)) (i : ℕ) (used : List Bool)
    (v : Values) → is_used used i ≡ false
    → Agree used (run_from frame position stage (Clear (without entries i) ∷ []) v) (run_from frame position stage (Clear entries ∷ []) v)
unfolding run_from apply
after_one frame position stage entries i used v free = agrees entries i used v free

replaces : (stage : Stage) (ranges : List ValueRange) (entries : List (Option ℚ)) (i : ℕ) (rest : List Op) → i < 4
    → is_given (entry entries i) ≡ true → is_used (used_from rest) i ≡ false
    → Replaces stage ranges (Clear entries ∷ []) (Some (Clear (without entries i))) rest
unfolding stage_from stage_after
replaces stage ranges entries i rest below given free = record {
  inner = refl;
  unread = refl;
  lighter = lighter entries i below given;
  typed = typed stage entries i;
  same = λ frame position v at.
      same_by_agreement frame position stage (Clear entries ∷ []) rest (Some (Clear (without entries i))) v at.typed (last_behind
      (Clear entries) rest refl at.last) refl
      (after_one frame position stage entries i (used_from rest) v free);
}

pub trim_clear_sound : IsSound (λ stage ranges ops. trim_clear ops)
unfolding trim_clear
trim_clear_sound stage ranges (Clear entries ∷ rest) change is =
    option_and_then_some _ (lowest (λ i. is_given (entry entries i) && not (is_used (used_from rest) i))) change is
    (λ i first same.
    (let l = lowest_passes (λ j. is_given (entry entries j) && not (is_used (used_from rest) j)) i first in
    let p = and_parts (is_given (entry entries i)) (not (is_used (used_from rest) i)) l.1 in
    subst (λ (c : Change). Replacement stage ranges (Clear entries ∷ rest) c) (same_Some _ change same)
    (record {
      old = Clear entries ∷ [];
      rest = rest;
      split = refl;
      behind = refl;
      replaces = replaces stage ranges entries i rest l.0 p.0
          (from_not _ p.1);
    })))
trim_clear_sound stage ranges _ change is = absurd (none-some change is)
