-- What a pass owes where it applies, and what follows for the list from there on.
use Rattle.std.proofs.Common.{◌≡◌, ℕ, ◌+◌, ◌<◌, ◌≤◌, true, not, List, [], ◌∷◌, ◌++◌, length, drop, All, length-append, subst, refl, sym}
use Rattle.std.proofs.Common.{◌∙◌, ap, arith}
use Rattle.std.specs.Prelude.{Option, Some, None}
use Rattle.std.specs.List.{list_all}
use Rattle.op_list.specs.declared.types.Stage.{Stage}
use Rattle.op_list.specs.declared.types.Stage.TheVariants.{Start}
use Rattle.op_list.specs.declared.position.PixelPosition.{PixelPosition}
use Rattle.op_list.specs.declared.op.Op.{Op}
use Rattle.op_list.specs.declared.values.Values.{Values}
use Rattle.op_list.specs.Types.{is_rational}
use Rattle.op_list.specs.Typing.{stage_after, stage_from, are_typed, is_write, ends_with_write}
use Rattle.op_list.specs.Values.{are_fractions}
use Rattle.op_list.specs.Apply.{apply}
use Rattle.op_list.specs.Run.{run_from}
use Rattle.op_list.proofs.Runs.{run_from-append}
use Rattle.op_list.proofs.Typed.{are_typed-append}
use Rattle.op_list.proofs.Steps.{apply_kind}
use Rattle.op_range.specs.declared.range.ValueRange.{ValueRange}
use Rattle.op_range.specs.Ranges.{ranges_after}
use Rattle.op_range.specs.Within.{FirstAreWithin, AreWithin}
use Rattle.op_range.specs.Laws.{MayStand}
use Rattle.op_range.proofs.States.{all_left}
use Rattle.op_range.specs.Used.{used_from, Agree}
use Rattle.op_range.specs.Within.{AreSmall}
use Rattle.op_range.proofs.RangeSteps.{ranges_enclose}
use Rattle.op_range.proofs.SmallSteps.{numbers_stay_small}
use Rattle.op_range.proofs.UsedSteps.{unused_free}
use Rattle.op_opt.specs.declared.change.Change.{Change}
use Rattle.op_opt.specs.Changes.{Rule, with_given, changed}
use Rattle.op_opt.specs.Weight.{weight}
use Rattle.op_list.proofs.Typed.{typed_parts, typed_from, typed_fronts}
use Rattle.op_opt.proofs.Ends.{is_read, first_or, last_or, same_last, not_at_start}
use Rattle.op_list.proofs.Wholes.{before_other, last_behind, last_before, last_behind_all}

-- values that stand before some operations of a whole list
pub record At (stage : Stage) (ranges : List ValueRange) (ops : List Op) (frame : List ℕ) (values : Values) : Type 0 where
  pub typed : are_typed stage ops ≡ true
  pub last : ends_with_write ops ≡ true
  pub bytes : All (λ byte. byte < 256) frame
  pub kind : are_fractions values ≡ is_rational stage
  pub within : AreWithin ranges values
  pub small : AreSmall stage values

abbrev pub ops_of : Option Op → List Op
ops_of None = []
ops_of (Some op) = op ∷ []

-- the operations `old` are taken, and one or none is given in their place
pub record Replaces (stage : Stage) (ranges : List ValueRange) (old : List Op) (given : Option Op) (rest : List Op) : Type 0 where
  pub inner : list_all (λ op. not (is_write op)) old ≡ true
  pub unread : list_all (λ op. not (is_read op)) old ≡ true
  pub lighter : weight (ops_of given) < weight old
  pub typed : are_typed stage old ≡ true → (are_typed stage (ops_of given) ≡ true) × (stage_from stage
      (ops_of given) ≡ stage_from stage old)
  pub same : (frame : List ℕ) (position : PixelPosition) (v : Values) → At stage ranges (old ++ rest) frame v
      → run_from frame position stage (ops_of given ++ rest) v ≡ run_from frame position stage (old ++ rest) v

pub record Replacement (stage : Stage) (ranges : List ValueRange) (ops : List Op) (change : Change) : Type 0 where
  pub old : List Op
  pub rest : List Op
  pub split : ops ≡ old ++ rest
  pub behind : drop change.taken ops ≡ rest
  pub replaces : Replaces stage ranges old change.given rest

-- a rule that owes this wherever it applies
abbrev pub IsSound : Rule → Type 0
IsSound rule = (stage : Stage) (ranges : List ValueRange) (ops : List Op) (change : Change) → rule stage ranges ops ≡ Some change
    → Replacement stage ranges ops change

-- what is known of a list after a pass, from a place on
pub record Improves (stage : Stage) (ranges : List ValueRange) (ops after : List Op) : Type 0 where
  pub typed : are_typed stage ops ≡ true → are_typed stage after ≡ true
  pub last : ends_with_write ops ≡ true → ends_with_write after ≡ true
  pub first : stage ≡ Start → are_typed stage ops ≡ true → (other : Op) → first_or other after ≡ first_or other ops
  pub final : ends_with_write ops ≡ true → (other : Op) → last_or other after ≡ last_or other ops
  pub lighter : weight after < weight ops
  pub shorter : length after ≤ length ops
  pub same : (frame : List ℕ) (position : PixelPosition) (v : Values) → At stage ranges ops frame v
      → run_from frame position stage after v ≡ run_from frame position stage ops v

-- ---- values that agree where they are used
pub same_by_agreement : (frame : List ℕ) (position : PixelPosition) (stage : Stage) (old rest : List Op) (given : Option Op) (v : Values)
    → are_typed stage (old ++ rest) ≡ true → ends_with_write rest ≡ true → stage_from stage (ops_of given) ≡ stage_from stage old
    → Agree (used_from rest) (run_from frame position stage (ops_of given) v) (run_from frame position stage old v)
    → run_from frame position stage (ops_of given ++ rest) v ≡ run_from frame position stage (old ++ rest) v
same_by_agreement frame position stage old rest given v typed last same h =
    run_from-append frame position stage (ops_of given) rest v
    ∙ ap (λ s. run_from frame position s rest (run_from frame position stage (ops_of given) v)) same
    ∙ unused_free frame position (stage_from stage old) rest _ _ (typed_fronts stage old rest typed).1 last h
    ∙ sym (run_from-append frame position stage old rest v)

-- ---- the weight of two parts
weight-append : (old rest : List Op) → weight (old ++ rest) ≡ weight old + weight rest
unfolding weight
weight-append [] rest = omega arith
weight-append (op ∷ old) rest = omega (arith, weight-append old rest)

not_empty : (old : List Op) (n : ℕ) → n < weight old → 1 ≤ length old
unfolding weight
not_empty [] n h = absurd (omega arith)
not_empty (op ∷ old) n h = omega arith

most_one : (given : Option Op) → length (ops_of given) ≤ 1
most_one None = omega arith
most_one (Some op) = omega arith

given_before : (given : Option Op) (rest : List Op) → with_given given rest ≡ ops_of given ++ rest
given_before None rest = refl
given_before (Some op) rest = refl

last_given : (given : Option Op) (rest : List Op) → ends_with_write rest ≡ true → ends_with_write (ops_of given ++ rest) ≡ true
last_given None rest h = h
last_given (Some op) rest h = last_before op rest h

-- ---- at the place of the change
improves_parts : (stage : Stage) (ranges : List ValueRange) (old rest : List Op) (given : Option Op)
    → Replaces stage ranges old given rest → Improves stage ranges (old ++ rest) (ops_of given ++ rest)
improves_parts stage ranges old rest given h = record {
  typed = λ t.
      (let parts = typed_fronts stage old rest t in
      let new = h.typed parts.0 in
      are_typed-append stage (ops_of given) rest new.0 (subst (λ (s : Stage). are_typed s rest ≡ true) (sym new.1) parts.1));
  last = λ l. last_given given rest (last_behind_all old rest h.inner l);
  first = λ start t other. absurd (not_at_start stage old rest start (not_empty old (weight (ops_of given)) h.lighter) h.unread t);
  final = λ l other. same_last other old (ops_of given) rest (last_behind_all old rest h.inner l);
  lighter = omega (arith, h.lighter, weight-append old rest, weight-append (ops_of given) rest);
  shorter = omega (
    arith,
    not_empty old (weight (ops_of given)) h.lighter,
    most_one given,
    length-append old rest,
    length-append
        (ops_of given) rest,
  );
  same = λ frame position v at. h.same frame position v at;
}

pub improves_here : (stage : Stage) (ranges : List ValueRange) (ops : List Op) (change : Change) → Replacement stage ranges ops change
    → Improves stage ranges ops (changed ops change)
improves_here stage ranges ops change r =
    subst (λ (o : List Op). Improves stage ranges o (changed ops change)) (sym r.split)
    (subst (λ (n : List Op). Improves stage ranges (r.old ++ r.rest) n) (sym (ap (with_given change.given) r.behind
    ∙ given_before change.given r.rest))
    (improves_parts stage ranges r.old r.rest change.given r.replaces))

-- ---- behind an operation
next_at : (frame : List ℕ) (position : PixelPosition) (stage : Stage) (ranges : List ValueRange) (op next : Op) (ops : List Op) (v : Values)
    → At stage ranges (op ∷ next ∷ ops) frame v → At (stage_after stage op) (ranges_after stage op ranges) (next ∷ ops) frame
    (apply frame position stage op v)
next_at frame position stage ranges op next ops v h =
    let t = typed_parts stage op (next ∷ ops) h.typed in
    let inner = before_other stage op next ops h.typed in
    let may : MayStand frame stage op v = record { bytes = h.bytes; follows = t.0; good = t.1; kind = h.kind } in
    record {
      typed = t.2;
      last = last_behind op (next ∷ ops) inner h.last;
      bytes = h.bytes;
      kind = apply_kind frame position stage op v h.kind t.0 t.1;
      within = subst (λ (n : ℕ). FirstAreWithin n (ranges_after stage op ranges) (apply frame position stage op v)) (all_left op inner)
          (ranges_enclose frame position stage op ranges v may h.within);
      small = numbers_stay_small frame position stage op v may inner h.small;
    }

nothing_lighter : (after : List Op) → weight after < weight [] → ⊥
unfolding weight
nothing_lighter after h = absurd (omega arith)

weight_same : (op : Op) (ops after : List Op) → weight after < weight ops → weight (op ∷ after) < weight (op ∷ ops)
unfolding weight
weight_same op ops after h = omega arith

run_behind : (frame : List ℕ) (position : PixelPosition) (stage : Stage) (op : Op) (ops : List Op) (v : Values)
    → run_from frame position stage (op ∷ ops) v ≡ run_from frame position (stage_after stage op) ops (apply frame position stage op v)
unfolding run_from
run_behind frame position stage op ops v = refl

tail_last : (op next : Op) (ops : List Op) → ends_with_write (op ∷ next ∷ ops) ≡ true → ends_with_write (next ∷ ops) ≡ true
unfolding ends_with_write
tail_last op next ops h = h

pub improves_behind : (stage : Stage) (ranges : List ValueRange) (op : Op) (ops after : List Op)
    → Improves (stage_after stage op) (ranges_after stage op ranges) ops after → Improves stage ranges (op ∷ ops) (op ∷ after)
improves_behind stage ranges op [] after h = absurd (nothing_lighter after h.lighter)
improves_behind stage ranges op (next ∷ ops) after h = record {
  typed = λ typed. (let t = typed_parts stage op (next ∷ ops) typed in typed_from stage op after t.0 t.1 (h.typed t.2));
  last = λ l. last_before op after (h.last (tail_last op next ops l));
  first = λ start t other. refl;
  final = λ l other. h.final (tail_last op next ops l) op;
  lighter = weight_same op (next ∷ ops) after h.lighter;
  shorter = omega (arith, h.shorter);
  same = λ frame position v at.
      run_behind frame position stage op after v ∙ h.same frame position (apply frame position stage op v)
      (next_at frame position stage ranges op next ops v at)
      ∙ sym (run_behind frame position stage op (next ∷ ops) v);
}
