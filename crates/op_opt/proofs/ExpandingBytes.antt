-- Expand bytes by a conversion.
use Rattle.std.proofs.Common.{◌≡◌, ℕ, ◌*◌, ◌%◌, ◌^◌, ◌<◌, Bool, true, false, not, ◌&&◌, ◌||◌, List, [], ◌∷◌, pos, subst, refl, sym, ◌∙◌, ap}
use Rattle.std.proofs.Common.{arith}
use Rattle.std.specs.Prelude.{Some, slice_index}
use Rattle.std.proofs.lemmas.Option.{same_Some, none-some}
use Rattle.std.proofs.lemmas.Bool.{and_parts, and_from}
use Rattle.frac_math.specs.Fraction.{ℚ, nat, floor, equal_ℚ, ◌*ℚ◌}
use Rattle.frac_math.proofs.Floor.{floor_whole}
use Rattle.frac_math.proofs.FractionRing.{equal_is, whole-mul}
use Rattle.op_list.specs.declared.types.PixType.{PixType}
use Rattle.op_list.specs.declared.types.PixType.TheVariants.{U8, U16, Rat}
use Rattle.op_list.specs.declared.types.Stage.{Stage}
use Rattle.op_list.specs.declared.types.Stage.TheVariants.{Typed}
use Rattle.op_list.specs.declared.position.PixelPosition.{PixelPosition}
use Rattle.op_list.specs.declared.op.Op.{Op}
use Rattle.op_list.specs.declared.op.Op.TheVariants.{Convert, Linear, Scale}
use Rattle.op_list.specs.declared.values.Values.{Values}
use Rattle.op_list.specs.declared.values.Values.TheVariants.{Numbers, Fractions}
use Rattle.op_list.specs.Types.{is_same, has_type}
use Rattle.op_list.specs.Typing.{may_follow, are_good, stage_after, stage_from, are_typed, is_write}
use Rattle.op_list.specs.Values.{four, fraction_in, are_fractions}
use Rattle.op_list.specs.Whole.{modulo}
use Rattle.op_list.specs.Apply.{apply, converted, row_of, row_value}
use Rattle.op_list.specs.Run.{run_from}
use Rattle.op_list.proofs.Four.{get_or-four}
use Rattle.op_list.proofs.Wholes.{last_behind}
use Rattle.op_range.specs.declared.range.ValueRange.{ValueRange}
use Rattle.op_range.specs.Used.{is_used, used_from, Agree}
use Rattle.op_range.proofs.Agreeing.{agree_numbers}
use Rattle.op_opt.specs.declared.change.Change.{Change}
use Rattle.op_opt.specs.ExpandBytes.{is_expanding_row, expands_used, goes_through_fractions, expand_bytes}
use Rattle.op_opt.specs.Weight.{weight, weight_of}
use Rattle.op_opt.proofs.Ends.{is_read}
use Rattle.op_opt.proofs.PassedTests.{chosen, if_used, all_at}
use Rattle.op_opt.proofs.LinearRows.{expanding_value}
use Rattle.op_opt.proofs.Replacing.{IsSound, Replaces, Replacement, same_by_agreement}

-- ---- an operation that makes the used fractions 257 times as great
record Expands (used : List Bool) (op : Op) : Type 0 where
  inner : is_write op ≡ false
  unread : is_read op ≡ false
  leaves : (stage : Stage) → stage_after stage op ≡ stage
  made : List ℚ → ℕ → ℚ
  applies : (frame : List ℕ) (position : PixelPosition) (stage : Stage) (xs : List ℚ)
      → apply frame position stage op (Fractions xs) ≡ Fractions (four (made xs))
  expands : (xs : List ℚ) (i : ℕ) → i < 4 → is_used used i ≡ true → made xs i ≡ fraction_in xs i *ℚ nat 257

scale_expands : (used : List Bool) (factor : ℚ) → equal_ℚ factor (nat 257) ≡ true → Expands used (Scale factor)
unfolding stage_after apply
scale_expands used factor is = record {
  inner = refl;
  unread = refl;
  leaves = λ stage. refl;
  made = λ xs i. fraction_in xs i *ℚ factor;
  applies = λ frame position stage xs. refl;
  expands = λ xs i below u. ap (λ c. fraction_in xs i *ℚ c) (equal_is factor (nat 257) is);
}

linear_expands : (used : List Bool) (rows : List (List ℚ)) → expands_used used rows ≡ true → Expands used (Linear rows)
unfolding stage_after apply
linear_expands used rows is = record {
  inner = refl;
  unread = refl;
  leaves = λ stage. refl;
  made = λ xs i. row_value (row_of rows i) (Fractions xs);
  applies = λ frame position stage xs. refl;
  expands = λ xs i below u.
      sym (expanding_value (row_of rows i) i (Fractions xs) below
      (if_used (is_used used i) _ (all_at (λ j. not (is_used used j) || is_expanding_row j (row_of rows j)) i below is) u));
}

-- ---- the values
expanded : (n : ℕ) (x : ℚ) → x ≡ nat n *ℚ nat 257 → n * 257 % 2 ^ 16 ≡ modulo (floor x) (2 ^ 16)
expanded n x is =
    sym (ap (λ z. modulo z (2 ^ 16)) (ap floor (is ∙ sym (whole-mul (pos n) (pos 257))) ∙ floor_whole (pos (n * 257))))

agrees : (used : List Bool) (op : Op) (first last : Bool) (frame : List ℕ) (position : PixelPosition) (v : Values) → Expands used op
    → are_fractions v ≡ false
    → Agree used (converted U16 true v) (converted U16 last (apply frame position (Typed Rat) op (converted Rat first v)))
agrees used op first last frame position (Fractions v) e kind = absurd (cc)
agrees used op first last frame position (Numbers v) e kind =
    let xs = four (λ i. nat (slice_index v i)) in
    subst (λ (w : Values). Agree used (converted U16 true (Numbers v)) (converted U16 last w)) (sym (e.applies frame position
    (Typed Rat) xs))
    (agree_numbers used (λ i. slice_index v i * 257 % 2 ^ 16) (λ i. modulo (floor (fraction_in (four (e.made xs)) i)) (2 ^ 16))
    (λ i below u. expanded (slice_index v i) (fraction_in (four (e.made xs)) i)
    (get_or-four (e.made xs) i (nat 0) below ∙ e.expands xs i below u ∙ ap (λ x. x *ℚ nat 257) (get_or-four
    (λ j. nat (slice_index v j)) i (nat 0) below))))

runs_both : (used : List Bool) (op : Op) (first last : Bool) (frame : List ℕ) (position : PixelPosition) (v : Values)
    → Agree used (converted U16 true v) (converted U16 last (apply frame position (Typed Rat) op (converted Rat first v)))
    → Agree used (run_from frame position (Typed U8) (Convert U16 true ∷ []) v) (run_from frame position (Typed U8) (Convert Rat first
    ∷ op ∷ Convert U16 last ∷ []) v)
unfolding run_from apply stage_after
runs_both used op first last frame position v h = h

-- ---- the type
lighter : (op : Op) (first last : Bool) → weight (Convert U16 true ∷ []) < weight (Convert Rat first ∷ op ∷ Convert U16 last ∷ [])
unfolding weight weight_of
lighter op first last = omega arith

one_typed : are_typed (Typed U8) (Convert U16 true ∷ []) ≡ true
unfolding are_typed may_follow are_good
one_typed = refl

same_type : (op : Op) (first last : Bool) → stage_from (Typed U8) (Convert U16 true ∷ []) ≡ stage_from (Typed U8) (Convert Rat first
    ∷ op ∷ Convert U16 last ∷ [])
unfolding stage_from stage_after
same_type op first last = refl

replaces : (ranges : List ValueRange) (op : Op) (first last : Bool) (rest : List Op) → Expands (used_from rest) op
    → Replaces (Typed U8) ranges (Convert Rat first ∷ op ∷ Convert U16 last ∷ []) (Some (Convert U16 true)) rest
replaces ranges op first last rest e = record {
  inner = and_from (not (is_write op)) true (ap not e.inner) refl;
  unread = and_from (not (is_read op)) true (ap not e.unread) refl;
  lighter = lighter op first last;
  typed = λ h. (one_typed, same_type op first last);
  same = λ frame position v at.
      same_by_agreement frame position (Typed U8) (Convert Rat first ∷ op ∷ Convert U16 last ∷ []) rest (Some (Convert U16 true)) v at.typed
      (last_behind (Convert U16 last) rest refl (last_behind op (Convert U16 last ∷ rest) e.inner (last_behind (Convert Rat first)
      (op ∷ Convert U16 last ∷ rest) refl at.last)))
      (same_type op first last) (runs_both (used_from rest) op first last frame position v (agrees
      (used_from rest) op first last frame position v e at.kind));
}

-- the types are those of the pass
at_types : (stage : Stage) (ranges : List ValueRange) (by to : PixType) (op : Op) (first last : Bool) (rest : List Op)
    → goes_through_fractions stage by to ≡ true
    → Expands (used_from rest) op → Replaces stage ranges (Convert by first ∷ op ∷ Convert to last ∷ []) (Some (Convert U16 true)) rest
at_types stage ranges by to op first last rest through e =
    let p = and_parts (has_type U8 stage && is_same by Rat) (is_same to U16) through in
    let q = and_parts (has_type U8 stage) (is_same by Rat) p.0 in
    typed_so stage by to q.0 q.1 p.1
  where
    typed_so : (s : Stage) (b t : PixType) → has_type U8 s ≡ true → is_same b Rat ≡ true → is_same t U16 ≡ true
        → Replaces s ranges (Convert b first ∷ op ∷ Convert t last ∷ []) (Some (Convert U16 true)) rest
    typed_so (Typed U8) Rat U16 x y z = replaces ranges op first last rest e
    typed_so _ _ _ x y z = absurd (cc)

replacement : (stage : Stage) (ranges : List ValueRange) (by to : PixType) (op : Op) (first last : Bool) (rest : List Op) (change : Change)
    → goes_through_fractions stage by to ≡ true → Expands (used_from rest) op
    → Some (record { taken = 3; given = Some (Convert U16 true) }) ≡ Some change
    → Replacement stage ranges (Convert by first ∷ op ∷ Convert to last ∷ rest) change
replacement stage ranges by to op first last rest change through e is =
    subst (λ (c : Change). Replacement stage ranges (Convert by first ∷ op ∷ Convert to last ∷ rest) c) (same_Some _ change is)
    (record {
      old = Convert by first ∷ op ∷ Convert to last ∷ [];
      rest = rest;
      split = refl;
      behind = refl;
      replaces =
          at_types stage ranges by to op first last rest through e;
    })

pub expand_bytes_sound : IsSound (λ stage ranges ops. expand_bytes stage ops)
unfolding expand_bytes
expand_bytes_sound stage ranges (Convert by first ∷ Scale factor ∷ Convert to last ∷ rest) change is =
    let c = chosen (goes_through_fractions stage by to && equal_ℚ factor (nat 257)) _ change is in
    let p = and_parts (goes_through_fractions stage by to) (equal_ℚ factor (nat 257)) c.0 in
    replacement stage ranges by to (Scale factor) first last rest change p.0 (scale_expands (used_from rest) factor p.1) c.1
expand_bytes_sound stage ranges (Convert by first ∷ Linear rows ∷ Convert to last ∷ rest) change is =
    let c = chosen (goes_through_fractions stage by to && expands_used (used_from rest) rows) _ change is in
    let p = and_parts (goes_through_fractions stage by to) (expands_used (used_from rest) rows) c.0 in
    replacement stage ranges by to (Linear rows) first last rest change p.0 (linear_expands (used_from rest) rows p.1) c.1
expand_bytes_sound stage ranges _ change is = absurd (none-some change is)
