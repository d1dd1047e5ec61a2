-- Reset what is not used.
use Rattle.std.proofs.Common.{◌≡◌, ℕ, zero, suc, ◌<◌, Bool, true, false, not, ◌&&◌, if◌then◌else◌, List, [], ◌∷◌, All, get_or, nat_eq}
use Rattle.std.proofs.Common.{eq-eqb, lt-ltb, subst, refl, ◌∙◌, ap, arith}
use Rattle.std.specs.Prelude.{Some, slice_index, nat_lt}
use Rattle.std.specs.List.{list_all}
use Rattle.std.proofs.lemmas.Option.{same_Some, none-some, option_and_then_some}
use Rattle.std.proofs.lemmas.Bool.{and_parts, and_from}
use Rattle.frac_math.specs.Fraction.{ℚ, equal_ℚ}
use Rattle.op_list.specs.declared.types.Stage.{Stage}
use Rattle.op_list.specs.declared.position.PixelPosition.{PixelPosition}
use Rattle.op_list.specs.declared.op.Op.{Op}
use Rattle.op_list.specs.declared.op.Op.TheVariants.{Swizzle, Linear}
use Rattle.op_list.specs.declared.values.Values.{Values}
use Rattle.op_list.specs.declared.values.Values.TheVariants.{Numbers, Fractions}
use Rattle.op_list.specs.Typing.{may_follow, are_good, stage_after, stage_from, are_typed}
use Rattle.op_list.specs.Values.{four, fraction_in}
use Rattle.op_list.specs.Apply.{apply, swizzled, row_of, row_value}
use Rattle.op_list.specs.Identity.{is_identity_row}
use Rattle.op_list.specs.Run.{run_from}
use Rattle.op_list.proofs.Applied.{swizzle_lanes}
use Rattle.op_list.proofs.Four.{get_or-four}
use Rattle.op_list.proofs.Typed.{typed_parts}
use Rattle.op_list.proofs.Wholes.{last_behind}
use Rattle.op_range.specs.declared.range.ValueRange.{ValueRange}
use Rattle.op_range.specs.Used.{is_used, used_from, Agree}
use Rattle.op_range.proofs.Agreeing.{agree_numbers, agree_fractions}
use Rattle.op_range.proofs.UsedSteps.{index_below}
use Rattle.op_opt.specs.declared.change.Change.{Change}
use Rattle.op_opt.specs.OfFour.{count_of_four, lowest}
use Rattle.op_opt.specs.ResetUnused.{identity_row, reset_row, reset_index, reset_unused}
use Rattle.op_opt.specs.Weight.{weight, weight_of}
use Rattle.op_opt.proofs.PassedTests.{from_not}
use Rattle.op_opt.proofs.Dropping.{lowest_passes, by_place, one_unused}
use Rattle.op_opt.proofs.Replacing.{IsSound, Replaces, Replacement, same_by_agreement}

-- ---- one fewer of four
count : Bool → ℕ
count b = if b then 1 else 0

fewer_of_four : (before after : ℕ → Bool) (i : ℕ) → i < 4 → before i ≡ true → after i ≡ false → ((j : ℕ) → j < 4 → nat_eq j i ≡ false
    → after j ≡ before j)
    → count_of_four after < count_of_four before
unfolding count
fewer_of_four before after zero below is none same =
    omega (
      arith,
      ap count is,
      ap count none,
      ap count (same 1 (omega arith) refl),
      ap count (same 2 (omega arith) refl),
      ap count
          (same 3 (omega arith) refl),
    )
fewer_of_four before after (suc zero) below is none same =
    omega (
      arith,
      ap count is,
      ap count none,
      ap count (same 0 (omega arith) refl),
      ap count (same 2 (omega arith) refl),
      ap count
          (same 3 (omega arith) refl),
    )
fewer_of_four before after (suc (suc zero)) below is none same =
    omega (
      arith,
      ap count is,
      ap count none,
      ap count (same 0 (omega arith) refl),
      ap count (same 1 (omega arith) refl),
      ap count
          (same 3 (omega arith) refl),
    )
fewer_of_four before after (suc (suc (suc zero))) below is none same =
    omega (
      arith,
      ap count is,
      ap count none,
      ap count (same 0 (omega arith) refl),
      ap count (same 1 (omega arith) refl),
      ap count
          (same 2 (omega arith) refl),
    )
fewer_of_four before after (suc (suc (suc (suc i)))) below is none same = absurd (omega arith)

-- ---- one of four is reset
other_of : {A : Type 0} (f g : ℕ → A) (i j : ℕ) (d : A) → j < 4 → nat_eq j i ≡ false
    → get_or (four (λ k. if nat_eq k i then f k else g k)) j d ≡ g j
other_of f g i j d below other = get_or-four (λ k. if nat_eq k i then f k else g k) j d below ∙ ap (λ b. if b then f j else g j) other

this_of : {A : Type 0} (f g : ℕ → A) (i : ℕ) (d : A) → i < 4 → get_or (four (λ k. if nat_eq k i then f k else g k)) i d ≡ f i
this_of f g i d below = get_or-four (λ k. if nat_eq k i then f k else g k) i d below ∙ ap (λ b. if b then f i else g i) (eq-eqb i i refl)

-- ---- Linear
is_identity : (i : ℕ) → i < 4 → is_identity_row i (identity_row i) ≡ true
unfolding is_identity_row equal_ℚ
is_identity zero below = refl
is_identity (suc zero) below = refl
is_identity (suc (suc zero)) below = refl
is_identity (suc (suc (suc zero))) below = refl
is_identity (suc (suc (suc (suc i)))) below = absurd (omega arith)

rows_lighter : (rows : List (List ℚ)) (i : ℕ) → i < 4 → is_identity_row i (row_of rows i) ≡ false
    → weight (Linear (reset_row rows i) ∷ []) < weight (Linear rows ∷ [])
unfolding weight weight_of
rows_lighter rows i below is =
    omega (
      arith,
      fewer_of_four (λ j. not (is_identity_row j (row_of rows j))) (λ j. not (is_identity_row j (row_of (reset_row rows i) j))) i below
          (ap not is)
          (ap not (ap (is_identity_row i) (this_of identity_row (row_of rows) i [] below) ∙ is_identity i below))
          (λ j inside other. ap (λ row. not (is_identity_row j row)) (other_of identity_row (row_of rows) i j [] inside other)),
    )

rows_typed : (stage : Stage) (rows new : List (List ℚ)) → are_typed stage (Linear rows ∷ []) ≡ true
    → (are_typed stage (Linear new ∷ []) ≡ true) × (stage_from stage (Linear new ∷ []) ≡ stage_from stage (Linear rows ∷ []))
unfolding are_typed stage_from may_follow are_good stage_after
rows_typed stage rows new h = (h, refl)

rows_agree : (frame : List ℕ) (position : PixelPosition) (stage : Stage) (rows : List (List ℚ)) (i : ℕ) (used : List Bool) (v : Values)
    → is_used used i ≡ false
    → Agree used (run_from frame position stage (Linear (reset_row rows i) ∷ []) v) (run_from frame position stage (Linear rows ∷ []) v)
unfolding run_from apply
rows_agree frame position stage rows i used v free =
    agree_fractions used (λ j. row_value (row_of (reset_row rows i) j) v) (λ j. row_value (row_of rows j) v)
    (λ j below u. by_place j i (λ e. absurd (one_unused (is_used used) j i u free e)) (λ other. ap
    (λ row. row_value row v) (other_of identity_row (row_of rows) i j [] below other)))

rows_replaced : (stage : Stage) (ranges : List ValueRange) (rows : List (List ℚ)) (i : ℕ) (rest : List Op) → i < 4
    → is_used (used_from rest) i ≡ false
    → is_identity_row i (row_of rows i) ≡ false → Replaces stage ranges (Linear rows ∷ []) (Some (Linear (reset_row rows i))) rest
unfolding stage_from stage_after
rows_replaced stage ranges rows i rest below free is = record {
  inner = refl;
  unread = refl;
  lighter = rows_lighter rows i below is;
  typed = rows_typed stage rows (reset_row rows i);
  same = λ frame position v at.
      same_by_agreement frame position stage (Linear rows ∷ []) rest (Some (Linear (reset_row rows i))) v at.typed (last_behind
      (Linear rows) rest refl at.last) refl
      (rows_agree frame position stage rows i (used_from rest) v free);
}

-- ---- Swizzle
indices_lighter : (from : List ℕ) (i : ℕ) → i < 4 → nat_eq (slice_index from i) i ≡ false
    → weight (Swizzle (reset_index from i) ∷ []) < weight (Swizzle from ∷ [])
unfolding weight weight_of
indices_lighter from i below is =
    omega (
      arith,
      fewer_of_four (λ j. not (nat_eq (slice_index from j) j)) (λ j. not (nat_eq (slice_index (reset_index from i) j) j)) i below
          (ap not is)
          (ap not (ap (λ k. nat_eq k i) (this_of (λ j. j) (slice_index from) i 0 below) ∙ eq-eqb i i refl))
          (λ j inside other. ap (λ k. not (nat_eq k j)) (other_of (λ k. k) (slice_index from) i j 0 inside other)),
    )

index_good : (b : Bool) (j k : ℕ) → nat_lt j 4 ≡ true → nat_lt k 4 ≡ true → nat_lt (if b then j else k) 4 ≡ true
index_good true j k h g = h
index_good false j k h g = g

indices_below : (from : List ℕ) (i : ℕ) → All (λ k. k < 4) from → list_all (λ k. nat_lt k 4) (reset_index from i) ≡ true
indices_below from i good =
    let each : (j : ℕ) → nat_lt j 4 ≡ true → nat_lt (if nat_eq j i then j else slice_index from j) 4 ≡ true =
    λ j h. index_good (nat_eq j i) j (slice_index from j) h (lt-ltb (slice_index from j) 4 (index_below from good j)) in
    and_from _ _ (each 0 refl) (and_from _ _ (each 1 refl) (and_from _ _ (each 2 refl) (and_from _ true (each 3 refl) refl)))

indices_typed : (stage : Stage) (from : List ℕ) (i : ℕ) → are_typed stage (Swizzle from ∷ []) ≡ true
    → (are_typed stage (Swizzle (reset_index from i) ∷ []) ≡ true) × (stage_from stage (Swizzle (reset_index from i)
    ∷ []) ≡ stage_from stage (Swizzle from ∷ []))
unfolding are_typed stage_from may_follow are_good stage_after
indices_typed stage from i h =
    let t = typed_parts stage (Swizzle from) [] h in
    (and_from _ true (and_from _ _ t.0 (indices_below from i (swizzle_lanes stage from t.1))) refl, refl)

indices_agree : (from : List ℕ) (i : ℕ) (used : List Bool) (v : Values) → is_used used i ≡ false
    → Agree used (swizzled (reset_index from i) v) (swizzled from v)
indices_agree from i used (Numbers v) free =
    agree_numbers used (λ j. slice_index v (slice_index (reset_index from i) j)) (λ j. slice_index v (slice_index from j))
    (λ j below u. by_place j i (λ e. absurd (one_unused (is_used used) j i u free e)) (λ other. ap (slice_index v) (other_of
    (λ k. k) (slice_index from) i j 0 below other)))
indices_agree from i used (Fractions v) free =
    agree_fractions used (λ j. fraction_in v (slice_index (reset_index from i) j)) (λ j. fraction_in v (slice_index from j))
    (λ j below u. by_place j i (λ e. absurd (one_unused (is_used used) j i u free e)) (λ other. ap (fraction_in v) (other_of
    (λ k. k) (slice_index from) i j 0 below other)))

indices_run : (frame : List ℕ) (position : PixelPosition) (stage : Stage) (from : List ℕ) (i : ℕ) (used : List Bool) (v : Values)
    → is_used used i ≡ false
    → Agree used (run_from frame position stage (Swizzle (reset_index from i) ∷ []) v) (run_from frame position stage (Swizzle from ∷ []) v)
unfolding run_from apply
indices_run frame position stage from i used v free = indices_agree from i used v free

indices_replaced : (stage : Stage) (ranges : List ValueRange) (from : List ℕ) (i : ℕ) (rest : List Op) → i < 4
    → is_used (used_from rest) i ≡ false
    → nat_eq (slice_index from i) i ≡ false → Replaces stage ranges (Swizzle from ∷ []) (Some (Swizzle (reset_index from i))) rest
unfolding stage_from stage_after
indices_replaced stage ranges from i rest below free is = record {
  inner = refl;
  unread = refl;
  lighter = indices_lighter from i below is;
  typed = indices_typed stage from i;
  same = λ frame position v at.
      same_by_agreement frame position stage (Swizzle from ∷ []) rest (Some (Swizzle (reset_index from i))) v at.typed (last_behind
      (Swizzle from) rest refl at.last) refl
      (indices_run frame position stage from i (used_from rest) v free);
}

pub reset_unused_sound : IsSound (λ stage ranges ops. reset_unused ops)
unfolding reset_unused
reset_unused_sound stage ranges (Linear rows ∷ rest) change is =
    let test = λ (i : ℕ). not (is_used (used_from rest) i) && not (is_identity_row i (row_of rows i)) in
    option_and_then_some _ (lowest test) change is
    (λ i first same.
    (let l = lowest_passes test i first in
    let p = and_parts (not (is_used (used_from rest) i)) (not (is_identity_row i (row_of rows i))) l.1 in
    subst (λ (c : Change). Replacement stage ranges (Linear rows ∷ rest) c) (same_Some _ change same)
    (record {
      old = Linear rows ∷ [];
      rest = rest;
      split = refl;
      behind = refl;
      replaces = rows_replaced stage ranges rows i rest l.0
          (from_not _ p.0) (from_not _ p.1);
    })))
reset_unused_sound stage ranges (Swizzle from ∷ rest) change is =
    let test = λ (i : ℕ). not (is_used (used_from rest) i) && not (nat_eq (slice_index from i) i) in
    option_and_then_some _ (lowest test) change is
    (λ i first same.
    (let l = lowest_passes test i first in
    let p = and_parts (not (is_used (used_from rest) i)) (not (nat_eq (slice_index from i) i)) l.1 in
    subst (λ (c : Change). Replacement stage ranges (Swizzle from ∷ rest) c) (same_Some _ change same)
    (record {
      old = Swizzle from ∷ [];
      rest = rest;
      split = refl;
      behind = refl;
      replaces = indices_replaced stage ranges from i rest l.0
          (from_not _ p.0) (from_not _ p.1);
    })))
reset_unused_sound stage ranges _ change is = absurd (none-some change is)
