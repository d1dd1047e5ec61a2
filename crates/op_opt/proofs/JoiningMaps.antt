-- Two linear maps as one.
use Rattle.std.proofs.Common.{◌≡◌, ℕ, zero, suc, ◌<◌, ◌≤◌, true, false, not, List, [], ◌∷◌, pos, subst, refl, sym, ◌∙◌, ap, arith}
use Rattle.std.specs.Prelude.{Option, Some}
use Rattle.std.proofs.lemmas.Option.{same_Some, none-some, option_and_then_some}
use Rattle.std.proofs.lemmas.Bool.{and_from}
use Rattle.frac_math.specs.Fraction.{ℚ, nat, ◌+ℚ◌, ◌*ℚ◌}
use Rattle.frac_math.specs.Checked.{checked_product}
use Rattle.frac_math.proofs.Ring.{var, num, ◌⊕◌, ◌⊗◌, ring}
use Rattle.frac_math.proofs.FractionRing.{fractions}
use Rattle.op_list.specs.declared.types.Stage.{Stage}
use Rattle.op_list.specs.declared.position.PixelPosition.{PixelPosition}
use Rattle.op_list.specs.declared.op.Op.{Op}
use Rattle.op_list.specs.declared.op.Op.TheVariants.{Linear, Scale}
use Rattle.op_list.specs.declared.values.Values.{Values}
use Rattle.op_list.specs.declared.values.Values.TheVariants.{Fractions}
use Rattle.op_list.specs.Typing.{may_follow, are_good, stage_after, stage_from, is_write}
use Rattle.op_list.specs.Types.{is_rational}
use Rattle.op_list.proofs.Typed.{typed_parts, typed_from, typed_none}
use Rattle.op_list.specs.Values.{four, fraction, fraction_in}
use Rattle.op_list.specs.Apply.{apply, row_of, row_value}
use Rattle.op_list.specs.Run.{run_from}
use Rattle.op_list.proofs.Exact.{checked_sum-exact, checked_product-exact, all_four-exact}
use Rattle.op_range.specs.declared.range.ValueRange.{ValueRange}
use Rattle.op_list.proofs.Four.{get_or-four, same_four}
use Rattle.op_opt.specs.declared.change.Change.{Change}
use Rattle.op_opt.specs.Changes.{taking}
use Rattle.op_opt.specs.JoinMaps.{diagonal, plus_product, checked_dot, column_of, joined_row, joined_rows, join_maps}
use Rattle.op_opt.specs.Weight.{weight, weight_of}
use Rattle.op_list.specs.Identity.{is_identity_row}
use Rattle.op_opt.proofs.Ends.{is_read}
use Rattle.op_opt.proofs.JoiningSwizzles.{at_most_four}
use Rattle.op_opt.proofs.Replacing.{IsSound, Replaces, Replacement}

-- ---- the exact answers of the checked sums
plus_exact : (row : List ℚ) (column : ℕ → ℚ) (k : ℕ) (total : Option ℚ) (t z : ℚ) → ((x : ℚ) → total ≡ Some x → t ≡ x)
    → plus_product row column k total ≡ Some z → t +ℚ fraction_in row k *ℚ column k ≡ z
plus_exact row column k total t z so_far h =
    option_and_then_some _ total z h (λ x is e. option_and_then_some _ (checked_product (fraction_in row k) (column k)) z e
    (λ p product f. ap (λ q. t +ℚ q) (checked_product-exact (fraction_in row k) (column k) p product) ∙ ap (λ q. q +ℚ p) (so_far x is)
    ∙ checked_sum-exact x p z f))

unfoldable pub exact_dot : List ℚ → (ℕ → ℚ) → ℚ
exact_dot row column =
    nat 0 +ℚ fraction_in row 0 *ℚ column 0 +ℚ fraction_in row 1 *ℚ column 1 +ℚ fraction_in row 2 *ℚ column 2 +ℚ fraction_in row 3 *ℚ column
    3

dot_exact : (row : List ℚ) (column : ℕ → ℚ) (z : ℚ) → checked_dot row column ≡ Some z → exact_dot row column ≡ z
unfolding checked_dot exact_dot
dot_exact row column z h =
    plus_exact row column 3 _ _ z (λ c hc. plus_exact row column 2 _ _ c (λ b hb. plus_exact row column 1 _ _ b
    (λ a ha. plus_exact row column 0 (Some (nat 0)) (nat 0) a (λ x e. same_Some (nat 0) x e) ha) hb) hc) h

unfoldable pub exact_row : List ℚ → List (List ℚ) → List ℚ
exact_row row rows =
    exact_dot row (column_of rows 0) ∷ exact_dot row (column_of rows 1) ∷ exact_dot row (column_of rows 2) ∷ exact_dot row
    (column_of rows 3) ∷ (exact_dot row (column_of rows 4) +ℚ fraction_in row 4) ∷ []

pub row_exact : (row : List ℚ) (rows : List (List ℚ)) (out : List ℚ) → joined_row row rows ≡ Some out → exact_row row rows ≡ out
unfolding joined_row exact_row
row_exact row rows out h =
    option_and_then_some _ (checked_dot row (column_of rows 0)) out h (λ a pa ha. option_and_then_some _ (checked_dot row
    (column_of rows 1)) out ha
    (λ b pb hb. option_and_then_some _ (checked_dot row (column_of rows 2)) out hb (λ c pc hc. option_and_then_some _ (checked_dot row
    (column_of rows 3)) out hc
    (λ d pd hd. option_and_then_some _ _ out hd (λ e pe he. option_and_then_some _ (checked_dot row (column_of rows 4)) e pe
    (λ f pf hf.
    (let ea = dot_exact row (column_of rows 0) a pa in let eb = dot_exact row (column_of rows 1) b pb in
    let ec = dot_exact row (column_of rows 2) c pc in
    let ed = dot_exact row (column_of rows 3) d pd in let ee = ap (λ q. q +ℚ fraction_in row 4) (dot_exact row (column_of rows 4) f pf)
    ∙ checked_sum-exact f (fraction_in row 4) e hf in
    let last = same_Some (a ∷ b ∷ c ∷ d ∷ e ∷ []) out he in cc)))))))

-- ---- a row after some rows
mapped : List (List ℚ) → Values → Values
mapped rows v = Fractions (four (λ i. row_value (row_of rows i) v))

-- the row after the rows, on a value
regrouped : (row : List ℚ) (rows : List (List ℚ)) (v : Values) → row_value (exact_row row rows) v ≡ row_value row (mapped rows v)
unfolding exact_row exact_dot mapped
regrouped row rows v =
    ring fractions (fraction_in row 0 ∷ fraction_in row 1 ∷ fraction_in row 2 ∷ fraction_in row 3 ∷ fraction_in row 4 ∷ fraction_in
    (row_of rows 0) 0 ∷ fraction_in (row_of rows 0) 1 ∷ fraction_in (row_of rows 0) 2 ∷ fraction_in (row_of rows 0) 3 ∷ fraction_in
    (row_of rows 0) 4 ∷ fraction_in (row_of rows 1) 0 ∷ fraction_in (row_of rows 1) 1 ∷ fraction_in (row_of rows 1) 2 ∷ fraction_in
    (row_of rows 1) 3 ∷ fraction_in (row_of rows 1) 4 ∷ fraction_in (row_of rows 2) 0 ∷ fraction_in (row_of rows 2) 1 ∷ fraction_in
    (row_of rows 2) 2 ∷ fraction_in (row_of rows 2) 3 ∷ fraction_in (row_of rows 2) 4 ∷ fraction_in (row_of rows 3) 0 ∷ fraction_in
    (row_of rows 3) 1 ∷ fraction_in (row_of rows 3) 2 ∷ fraction_in (row_of rows 3) 3 ∷ fraction_in (row_of rows 3) 4 ∷ fraction v 0
    ∷ fraction v 1 ∷ fraction v 2 ∷ fraction v 3 ∷ [])
    ((((((((((num (pos 0)) ⊕ (var 0) ⊗ (var 9)) ⊕ (var 1) ⊗ (var 14)) ⊕ (var 2) ⊗ (var 19)) ⊕ (var 3) ⊗ (var 24)) ⊕ (var 4)) ⊕ (((((num
    (pos 0)) ⊕ (var 0) ⊗ (var 5)) ⊕ (var 1) ⊗ (var 10)) ⊕ (var 2) ⊗ (var 15)) ⊕ (var 3) ⊗ (var 20)) ⊗ (var 25)) ⊕ (((((num (pos 0)) ⊕
    (var 0) ⊗ (var 6)) ⊕ (var 1) ⊗ (var 11)) ⊕ (var 2) ⊗ (var 16)) ⊕ (var 3) ⊗ (var 21)) ⊗ (var 26)) ⊕ (((((num (pos 0)) ⊕ (var 0) ⊗
    (var 7)) ⊕ (var 1) ⊗ (var 12)) ⊕ (var 2) ⊗ (var 17)) ⊕ (var 3) ⊗ (var 22)) ⊗ (var 27)) ⊕ (((((num (pos 0)) ⊕ (var 0) ⊗ (var 8)) ⊕
    (var 1) ⊗ (var 13)) ⊕ (var 2) ⊗ (var 18)) ⊕ (var 3) ⊗ (var 23)) ⊗ (var 28))
    (((((var 4) ⊕ (var 0) ⊗ (((((var 9) ⊕ (var 5) ⊗ (var 25)) ⊕ (var 6) ⊗ (var 26)) ⊕ (var 7) ⊗ (var 27)) ⊕ (var 8) ⊗ (var 28))) ⊕
    (var 1) ⊗ (((((var 14) ⊕ (var 10) ⊗ (var 25)) ⊕ (var 11) ⊗ (var 26)) ⊕ (var 12) ⊗ (var 27)) ⊕ (var 13) ⊗ (var 28))) ⊕ (var 2) ⊗
    (((((var 19) ⊕ (var 15) ⊗ (var 25)) ⊕ (var 16) ⊗ (var 26)) ⊕ (var 17) ⊗ (var 27)) ⊕ (var 18) ⊗ (var 28))) ⊕ (var 3) ⊗ (((((var 24) ⊕
    (var 20) ⊗ (var 25)) ⊕ (var 21) ⊗ (var 26)) ⊕ (var 22) ⊗ (var 27)) ⊕ (var 23) ⊗ (var 28))) refl

mapped_twice : (first second joined : List (List ℚ)) → joined_rows first second ≡ Some joined → (v : Values)
    → mapped joined v ≡ mapped second (mapped first v)
unfolding joined_rows mapped
mapped_twice first second joined h v =
    let row = λ (i : ℕ). exact_row (row_of second i) first in
    let is : four row ≡ joined = all_four-exact (λ i. joined_row (row_of second i) first) row joined
    (λ i out e. row_exact (row_of second i) first out e) h in
    sym (ap (λ rows. Fractions (four (λ i. row_value (row_of rows i) v))) is)
    ∙ ap Fractions (same_four (λ i. row_value (row_of (four row) i) v) (λ i. row_value (row_of second i) (Fractions (four
    (λ j. row_value (row_of first j) v))))
    (λ i below. ap (λ r. row_value r v) (get_or-four row i [] below) ∙ regrouped (row_of second i) first v))

-- ---- a scale as a map
scaled : ℚ → Values → Values
scaled by v = Fractions (four (λ i. fraction v i *ℚ by))

pub diagonal_value : (by : ℚ) (v : Values) (i : ℕ) → i < 4 → fraction v i *ℚ by ≡ row_value (row_of (diagonal by) i) v
diagonal_value by v zero below =
    ring fractions (by ∷ fraction v 0 ∷ fraction v 1 ∷ fraction v 2 ∷ fraction v 3 ∷ []) (var 1 ⊗ var 0) (num
    (pos 0) ⊕ var 0 ⊗ var 1 ⊕ num (pos 0) ⊗ var 2 ⊕ num (pos 0) ⊗ var 3 ⊕ num (pos 0) ⊗ var 4) refl
diagonal_value by v (suc zero) below =
    ring fractions (by ∷ fraction v 0 ∷ fraction v 1 ∷ fraction v 2 ∷ fraction v 3 ∷ []) (var 2 ⊗ var 0) (num (pos 0) ⊕ num
    (pos 0) ⊗ var 1 ⊕ var 0 ⊗ var 2 ⊕ num (pos 0) ⊗ var 3 ⊕ num (pos 0) ⊗ var 4) refl
diagonal_value by v (suc (suc zero)) below =
    ring fractions (by ∷ fraction v 0 ∷ fraction v 1 ∷ fraction v 2 ∷ fraction v 3 ∷ []) (var 3 ⊗ var 0) (num (pos 0) ⊕ num
    (pos 0) ⊗ var 1 ⊕ num (pos 0) ⊗ var 2 ⊕ var 0 ⊗ var 3 ⊕ num (pos 0) ⊗ var 4) refl
diagonal_value by v (suc (suc (suc zero))) below =
    ring fractions (by ∷ fraction v 0 ∷ fraction v 1 ∷ fraction v 2 ∷ fraction v 3 ∷ []) (var 4 ⊗ var 0) (num (pos 0) ⊕ num
    (pos 0) ⊗ var 1 ⊕ num (pos 0) ⊗ var 2 ⊕ num (pos 0) ⊗ var 3 ⊕ var 0 ⊗ var 4) refl
diagonal_value by v (suc (suc (suc (suc i)))) below = absurd (omega arith)

scaled_mapped : (by : ℚ) (v : Values) → scaled by v ≡ mapped (diagonal by) v
unfolding scaled mapped
scaled_mapped by v = ap Fractions (same_four (λ i. fraction v i *ℚ by) (λ i. row_value (row_of (diagonal by) i) v)
    (λ i below. diagonal_value by v i below))

scaled_twice : (a b : ℚ) (v : Values) → scaled (b *ℚ a) v ≡ scaled b (scaled a v)
unfolding scaled
scaled_twice a b v =
    ap Fractions (same_four (λ i. fraction v i *ℚ (b *ℚ a)) (λ i. fraction_in (four (λ j. fraction v j *ℚ a)) i *ℚ b)
    (λ i below. ring fractions (fraction v i ∷ a ∷ b ∷ []) (var 0 ⊗ (var 2 ⊗ var 1)) (var 0 ⊗ var 1 ⊗ var 2) refl
    ∙ sym (ap (λ x. x *ℚ b) (get_or-four (λ j. fraction v j *ℚ a) i (nat 0) below))))

diagonal_twice : (a b c : ℚ) → checked_product b a ≡ Some c → (v : Values) → mapped (diagonal c) v ≡ mapped (diagonal b) (mapped
    (diagonal a) v)
diagonal_twice a b c h v =
    sym (scaled_mapped c v) ∙ ap (λ d. scaled d v) (sym (checked_product-exact b a c h)) ∙ scaled_twice a b v
    ∙ ap (scaled b) (scaled_mapped a v) ∙ scaled_mapped b (mapped (diagonal a) v)

-- ---- an operation that is a map
record IsMap (op : Op) (rows : List (List ℚ)) : Type 0 where
  applies : (frame : List ℕ) (position : PixelPosition) (stage : Stage) (v : Values) → apply frame position stage op v ≡ mapped rows v
  inner : is_write op ≡ false
  unread : is_read op ≡ false
  heavy : 64 ≤ weight_of op
  light : weight_of op ≤ 68
  follows : (stage : Stage) → may_follow stage op ≡ is_rational stage
  good : (stage : Stage) → are_good stage op ≡ true
  leaves : (stage : Stage) → stage_after stage op ≡ stage

linear_map : (rows : List (List ℚ)) → IsMap (Linear rows) rows
unfolding apply mapped weight_of may_follow are_good stage_after
linear_map rows = record {
  applies = λ frame position stage v. refl;
  inner = refl;
  unread = refl;
  heavy = omega arith;
  light = omega (arith, at_most_four (λ i. not (is_identity_row i (row_of rows i))));
  follows = λ stage. refl;
  good = λ stage. refl;
  leaves = λ stage. refl;
}

scale_applies : (by : ℚ) (frame : List ℕ) (position : PixelPosition) (stage : Stage) (v : Values)
    → apply frame position stage (Scale by) v ≡ scaled by v
unfolding apply scaled
scale_applies by frame position stage v = refl

scale_map : (by : ℚ) → IsMap (Scale by) (diagonal by)
unfolding weight_of may_follow are_good stage_after
scale_map by = record {
  applies = λ frame position stage v. scale_applies by frame position stage v ∙ scaled_mapped by v;
  inner = refl;
  unread = refl;
  heavy = omega arith;
  light = omega arith;
  follows = λ stage. refl;
  good = λ stage. refl;
  leaves = λ stage. refl;
}

-- ---- two maps as one
lighter : (a b g : Op) → 64 ≤ weight_of a → 64 ≤ weight_of b → weight_of g ≤ 68 → weight (g ∷ []) < weight (a ∷ b ∷ [])
unfolding weight
lighter a b g p q r = omega arith

stage_one : (stage : Stage) (op : Op) → stage_from stage (op ∷ []) ≡ stage_after stage op
unfolding stage_from
stage_one stage op = refl

stage_two : (stage : Stage) (a b : Op) → stage_from stage (a ∷ b ∷ []) ≡ stage_after (stage_after stage a) b
unfolding stage_from
stage_two stage a b = refl

run_one : (frame : List ℕ) (position : PixelPosition) (stage : Stage) (op : Op) (rest : List Op) (v : Values)
    → run_from frame position stage (op ∷ rest) v ≡ run_from frame position (stage_after stage op) rest (apply frame position stage op v)
unfolding run_from
run_one frame position stage op rest v = refl

replaces : (stage : Stage) (ranges : List ValueRange) (a b g : Op) (first second joined : List (List ℚ)) (rest : List Op)
    → IsMap a first → IsMap b second → IsMap g joined
    → ((v : Values) → mapped joined v ≡ mapped second (mapped first v)) → Replaces stage ranges (a ∷ b ∷ []) (Some g) rest
replaces stage ranges a b g first second joined rest ma mb mg same = record {
  inner = and_from _ _ (ap not ma.inner) (and_from _ true (ap not mb.inner) refl);
  unread = and_from _ _ (ap not ma.unread) (and_from _ true (ap not mb.unread) refl);
  lighter = lighter a b g ma.heavy mb.heavy mg.light;
  typed = λ h.
      (let t = typed_parts stage a (b ∷ []) h in (
        typed_from stage g [] (mg.follows stage ∙ sym (ma.follows stage) ∙ t.0) (mg.good stage) (typed_none (stage_after stage g)),
        stage_one stage g ∙ mg.leaves stage ∙ sym (ma.leaves stage) ∙ sym (mb.leaves (stage_after stage a)) ∙ sym (stage_two stage a b),
      ));
  same = λ frame position v at.
      run_one frame position stage g rest v
      ∙ ap (λ s. run_from frame position s rest (apply frame position stage g v)) (mg.leaves stage ∙ sym (ma.leaves stage)
      ∙ sym (mb.leaves (stage_after stage a)))
      ∙ ap (λ w. run_from frame position (stage_after (stage_after stage a) b) rest w)
      (mg.applies frame position stage v ∙ same v ∙ sym (ap (mapped second) (ma.applies frame position stage v))
      ∙ sym (mb.applies frame position (stage_after stage a) (apply frame position stage a v)))
      ∙ sym (run_one frame position (stage_after stage a) b rest (apply frame position stage a v))
      ∙ sym (run_one frame position stage a (b ∷ rest) v);
}

replacement : (stage : Stage) (ranges : List ValueRange) (a b g : Op) (first second joined : List (List ℚ)) (rest : List Op)
    (change : Change) → IsMap a first → IsMap b second → IsMap g joined
    → ((v : Values) → mapped joined v ≡ mapped second (mapped first v)) → taking 2 (Some g) ≡ Some change
    → Replacement stage ranges (a ∷ b ∷ rest) change
replacement stage ranges a b g first second joined rest change ma mb mg same is =
    subst (λ (c : Change). Replacement stage ranges (a ∷ b ∷ rest) c) (same_Some _ change is)
    (record {
      old = a ∷ b ∷ [];
      rest = rest;
      split = refl;
      behind = refl;
      replaces =
          replaces stage ranges a b g first second joined rest ma mb mg same;
    })

pub join_maps_sound : IsSound (λ stage ranges ops. join_maps ops)
unfolding join_maps
join_maps_sound stage ranges (Scale a ∷ Scale b ∷ rest) change is =
    option_and_then_some _ (checked_product b a) change is (λ c product same. replacement stage ranges (Scale a) (Scale b) (Scale c)
    (diagonal a) (diagonal b) (diagonal c) rest change
    (scale_map a) (scale_map b) (scale_map c) (diagonal_twice a b c product) same)
join_maps_sound stage ranges (Scale a ∷ Linear second ∷ rest) change is =
    option_and_then_some _ (joined_rows (diagonal a) second) change is (λ joined rows same. replacement stage ranges (Scale a)
    (Linear second) (Linear joined) (diagonal a) second joined rest change
    (scale_map a) (linear_map second) (linear_map joined) (mapped_twice (diagonal a) second joined rows) same)
join_maps_sound stage ranges (Linear first ∷ Scale b ∷ rest) change is =
    option_and_then_some _ (joined_rows first (diagonal b)) change is (λ joined rows same. replacement stage ranges (Linear first)
    (Scale b) (Linear joined) first (diagonal b) joined rest change
    (linear_map first) (scale_map b) (linear_map joined) (mapped_twice first (diagonal b) joined rows) same)
join_maps_sound stage ranges (Linear first ∷ Linear second ∷ rest) change is =
    option_and_then_some _ (joined_rows first second) change is (λ joined rows same. replacement stage ranges (Linear first)
    (Linear second) (Linear joined) first second joined rest change
    (linear_map first) (linear_map second) (linear_map joined) (mapped_twice first second joined rows) same)
join_maps_sound stage ranges _ change is = absurd (none-some change is)
