-- A Min or a Max without the entry of a value that is not used, or that lies within the limit.
use Rattle.std.proofs.Common.{◌≡◌, ℕ, ◌<◌, Bool, true, not, ◌&&◌, ◌||◌, List, [], ◌∷◌, subst, refl, sym, ◌∙◌, ap, arith, eq-eqb}
use Rattle.std.specs.Prelude.{Option, Some, None, IfSome}
use Rattle.std.proofs.lemmas.Option.{same_Some, none-some, option_and_then_some}
use Rattle.std.proofs.lemmas.Bool.{and_parts}
use Rattle.frac_math.specs.Fraction.{ℚ, min_ℚ, max_ℚ, ◌≤ℚ◌}
use Rattle.frac_math.proofs.FractionOrder.{min_cases, max_cases, most_true, le_antisymm_ℚ, le_trans_ℚ}
use Rattle.op_list.specs.declared.types.Stage.{Stage}
use Rattle.op_list.specs.declared.position.PixelPosition.{PixelPosition}
use Rattle.op_list.specs.declared.op.Op.{Op}
use Rattle.op_list.specs.declared.op.Op.TheVariants.{Min, Max}
use Rattle.op_list.specs.declared.values.Values.{Values}
use Rattle.op_list.specs.declared.values.Values.TheVariants.{Numbers, Fractions}
use Rattle.op_list.specs.Types.{is_rational}
use Rattle.op_list.specs.Typing.{may_follow, are_good, stage_after, stage_from, are_typed}
use Rattle.op_list.specs.Values.{four, entry, fraction, are_fractions}
use Rattle.op_list.specs.Apply.{apply, at_most, at_least}
use Rattle.op_list.specs.Run.{run_from}
use Rattle.op_range.specs.declared.range.ValueRange.{ValueRange}
use Rattle.op_range.specs.Ranges.{range_in}
use Rattle.op_range.specs.Within.{value_of, AreWithin}
use Rattle.op_range.specs.Used.{is_used, used_from, Agree}
use Rattle.op_range.proofs.Agreeing.{agree_fractions}
use Rattle.op_opt.specs.declared.change.Change.{Change}
use Rattle.op_opt.specs.Entries.{without, is_given}
use Rattle.op_opt.specs.OfFour.{lowest}
use Rattle.op_opt.specs.TrimClamp.{trim_clamp, is_known_at_most}
use Rattle.op_opt.specs.Weight.{weight, weight_of}
use Rattle.op_list.proofs.Typed.{typed_parts}
use Rattle.op_list.proofs.Wholes.{last_behind}
use Rattle.op_opt.proofs.PassedTests.{if_used}
use Rattle.op_opt.proofs.Replacing.{IsSound, Replaces, Replacement, same_by_agreement}
use Rattle.op_opt.proofs.Dropping.{lowest_passes, other_entry, dropped_entry, by_place, fewer_entries}

-- ---- a limit that changes nothing
min_left : (x y : ℚ) → x ≤ℚ y → min_ℚ x y ≡ x
min_left x y h = min_cases (λ z. z ≡ x) x y (λ p. refl) (λ p. le_antisymm_ℚ y x p h)

max_left : (x y : ℚ) → y ≤ℚ x → max_ℚ x y ≡ x
max_left x y h = max_cases (λ z. z ≡ x) x y (λ p. le_antisymm_ℚ y x h p) (λ p. refl)

-- x is below a bound that is known to be at most the limit
most_idle : (high limit : Option ℚ) (x : ℚ) → IfSome high (λ b. x ≤ℚ b) → is_known_at_most high limit ≡ true → at_most limit x ≡ x
most_idle None limit x h k = absurd (cc)
most_idle (Some b) None x h k = refl
most_idle (Some b) (Some l) x h k = min_left x l (le_trans_ℚ x b l h (most_true b l k))

least_idle : (low limit : Option ℚ) (x : ℚ) → IfSome low (λ b. b ≤ℚ x) → is_known_at_most limit low ≡ true → at_least limit x ≡ x
least_idle None None x h k = refl
least_idle None (Some l) x h k = absurd (cc)
least_idle (Some b) None x h k = refl
least_idle (Some b) (Some l) x h k = max_left x l (le_trans_ℚ l b x (most_true l b k) h)

-- the value of fractions
as_fraction : (v : Values) (i : ℕ) → are_fractions v ≡ true → value_of v i ≡ fraction v i
as_fraction (Numbers v) i h = absurd (cc)
as_fraction (Fractions v) i h = refl

-- ---- the values agree
min_agrees : (limits : List (Option ℚ)) (i : ℕ) (ranges : List ValueRange) (used : List Bool) (v : Values) → i < 4
    → are_fractions v ≡ true → AreWithin ranges v
    → (not (is_used used i) || is_known_at_most (range_in ranges i).greatest (entry limits i)) ≡ true
    → Agree used (Fractions (four (λ j. at_most (entry (without limits i) j) (fraction v j)))) (Fractions (four
    (λ j. at_most (entry limits j) (fraction v j))))
min_agrees limits i ranges used v place kind within idle =
    agree_fractions used (λ j. at_most (entry (without limits i) j) (fraction v j)) (λ j. at_most (entry limits j) (fraction v j))
    (λ j below u. by_place j i
    (λ e. subst (λ (k : ℕ). at_most (entry (without limits i) k) (fraction v k) ≡ at_most (entry limits k) (fraction v k)) (sym e)
    (ap (λ x. at_most x (fraction v i)) (dropped_entry limits i place (eq-eqb i i refl))
    ∙ sym (most_idle (range_in ranges i).greatest (entry limits i) (fraction v i)
    (subst (λ (x : ℚ). IfSome (range_in ranges i).greatest (λ b. x ≤ℚ b)) (as_fraction v i kind) (within.each i place).below)
    (if_used (is_used used i) _ idle (sym (ap (is_used used) e) ∙ u)))))
    (λ other. ap (λ x. at_most x (fraction v j)) (other_entry limits i j below other)))

max_agrees : (limits : List (Option ℚ)) (i : ℕ) (ranges : List ValueRange) (used : List Bool) (v : Values) → i < 4
    → are_fractions v ≡ true → AreWithin ranges v
    → (not (is_used used i) || is_known_at_most (entry limits i) (range_in ranges i).least) ≡ true
    → Agree used (Fractions (four (λ j. at_least (entry (without limits i) j) (fraction v j)))) (Fractions (four
    (λ j. at_least (entry limits j) (fraction v j))))
max_agrees limits i ranges used v place kind within idle =
    agree_fractions used (λ j. at_least (entry (without limits i) j) (fraction v j)) (λ j. at_least (entry limits j) (fraction v j))
    (λ j below u. by_place j i
    (λ e. subst (λ (k : ℕ). at_least (entry (without limits i) k) (fraction v k) ≡ at_least (entry limits k) (fraction v k)) (sym e)
    (ap (λ x. at_least x (fraction v i)) (dropped_entry limits i place (eq-eqb i i refl))
    ∙ sym (least_idle (range_in ranges i).least (entry limits i) (fraction v i)
    (subst (λ (x : ℚ). IfSome (range_in ranges i).least (λ b. b ≤ℚ x)) (as_fraction v i kind) (within.each i place).above)
    (if_used (is_used used i) _ idle (sym (ap (is_used used) e) ∙ u)))))
    (λ other. ap (λ x. at_least x (fraction v j)) (other_entry limits i j below other)))

-- ---- Min
min_lighter : (limits : List (Option ℚ)) (i : ℕ) → i < 4 → is_given (entry limits i) ≡ true
    → weight (Min (without limits i) ∷ []) < weight (Min limits ∷ [])
unfolding weight weight_of
min_lighter limits i below h = omega (arith, fewer_entries limits i below h)

min_typed : (stage : Stage) (limits : List (Option ℚ)) (i : ℕ) → are_typed stage (Min limits ∷ []) ≡ true
    → (are_typed stage (Min (without limits i) ∷ []) ≡ true) × (stage_from stage (Min (without limits i) ∷ []) ≡ stage_from stage
    (Min limits ∷ []))
unfolding are_typed stage_from may_follow are_good stage_after
min_typed stage limits i h = (h, refl)

min_rational : (stage : Stage) (limits : List (Option ℚ)) (rest : List Op) → are_typed stage (Min limits ∷ rest) ≡ true
    → is_rational stage ≡ true
unfolding may_follow
min_rational stage limits rest h = (typed_parts stage (Min limits) rest h).0

min_run : (frame : List ℕ) (position : PixelPosition) (stage : Stage) (limits : List (Option ℚ)) (v : Values)
    → Fractions (four (λ j. at_most (entry limits j) (fraction v j))) ≡ run_from frame position stage (Min limits ∷ []) v
unfolding run_from apply
min_run frame position stage limits v = refl

min_replaces : (stage : Stage) (ranges : List ValueRange) (limits : List (Option ℚ)) (i : ℕ) (rest : List Op) → i < 4
    → is_given (entry limits i) ≡ true
    → (not (is_used (used_from rest) i) || is_known_at_most (range_in ranges i).greatest (entry limits i)) ≡ true
    → Replaces stage ranges (Min limits ∷ []) (Some (Min (without limits i))) rest
unfolding stage_from stage_after
min_replaces stage ranges limits i rest below given idle = record {
  inner = refl;
  unread = refl;
  lighter = min_lighter limits i below given;
  typed = min_typed stage limits i;
  same = λ frame position v at.
      same_by_agreement frame position stage (Min limits ∷ []) rest (Some (Min (without limits i))) v at.typed (last_behind
      (Min limits) rest refl at.last) refl
      (rw (← min_run frame position stage (without limits i) v, ← min_run frame position stage limits v)
      (min_agrees limits i ranges (used_from rest) v below (at.kind ∙ min_rational stage limits rest at.typed) at.within idle));
}

-- ---- Max
max_lighter : (limits : List (Option ℚ)) (i : ℕ) → i < 4 → is_given (entry limits i) ≡ true
    → weight (Max (without limits i) ∷ []) < weight (Max limits ∷ [])
unfolding weight weight_of
max_lighter limits i below h = omega (arith, fewer_entries limits i below h)

max_typed : (stage : Stage) (limits : List (Option ℚ)) (i : ℕ) → are_typed stage (Max limits ∷ []) ≡ true
    → (are_typed stage (Max (without limits i) ∷ []) ≡ true) × (stage_from stage (Max (without limits i) ∷ []) ≡ stage_from stage
    (Max limits ∷ []))
unfolding are_typed stage_from may_follow are_good stage_after
max_typed stage limits i h = (h, refl)

max_rational : (stage : Stage) (limits : List (Option ℚ)) (rest : List Op) → are_typed stage (Max limits ∷ rest) ≡ true
    → is_rational stage ≡ true
unfolding may_follow
max_rational stage limits rest h = (typed_parts stage (Max limits) rest h).0

max_run : (frame : List ℕ) (position : PixelPosition) (stage : Stage) (limits : List (Option ℚ)) (v : Values)
    → Fractions (four (λ j. at_least (entry limits j) (fraction v j))) ≡ run_from frame position stage (Max limits ∷ []) v
unfolding run_from apply
max_run frame position stage limits v = refl

max_replaces : (stage : Stage) (ranges : List ValueRange) (limits : List (Option ℚ)) (i : ℕ) (rest : List Op) → i < 4
    → is_given (entry limits i) ≡ true
    → (not (is_used (used_from rest) i) || is_known_at_most (entry limits i) (range_in ranges i).least) ≡ true
    → Replaces stage ranges (Max limits ∷ []) (Some (Max (without limits i))) rest
unfolding stage_from stage_after
max_replaces stage ranges limits i rest below given idle = record {
  inner = refl;
  unread = refl;
  lighter = max_lighter limits i below given;
  typed = max_typed stage limits i;
  same = λ frame position v at.
      same_by_agreement frame position stage (Max limits ∷ []) rest (Some (Max (without limits i))) v at.typed (last_behind
      (Max limits) rest refl at.last) refl
      (rw (← max_run frame position stage (without limits i) v, ← max_run frame position stage limits v)
      (max_agrees limits i ranges (used_from rest) v below (at.kind ∙ max_rational stage limits rest at.typed) at.within idle));
}

pub trim_clamp_sound : IsSound (λ stage ranges ops. trim_clamp ranges ops)
unfolding trim_clamp
trim_clamp_sound stage ranges (Min limits ∷ rest) change is =
    let test = λ (i : ℕ). is_given (entry limits i) && (not (is_used (used_from rest) i) || is_known_at_most (range_in ranges i).greatest
    (entry limits i)) in
    option_and_then_some _ (lowest test) change is
    (λ i first same.
    (let l = lowest_passes test i first in
    let p = and_parts (is_given (entry limits i)) _ l.1 in
    subst (λ (c : Change). Replacement stage ranges (Min limits ∷ rest) c) (same_Some _ change same)
    (record {
      old = Min limits ∷ [];
      rest = rest;
      split = refl;
      behind = refl;
      replaces =
          min_replaces stage ranges limits i rest l.0 p.0 p.1;
    })))
trim_clamp_sound stage ranges (Max limits ∷ rest) change is =
    let test = λ (i : ℕ). is_given (entry limits i) && (not (is_used (used_from rest) i) || is_known_at_most (entry limits i)
    (range_in ranges i).least) in
    option_and_then_some _ (lowest test) change is
    (λ i first same.
    (let l = lowest_passes test i first in
    let p = and_parts (is_given (entry limits i)) _ l.1 in
    subst (λ (c : Change). Replacement stage ranges (Max limits ∷ rest) c) (same_Some _ change same)
    (record {
      old = Max limits ∷ [];
      rest = rest;
      split = refl;
      behind = refl;
      replaces =
          max_replaces stage ranges limits i rest l.0 p.0 p.1;
    })))
trim_clamp_sound stage ranges _ change is = absurd (none-some change is)
