-- The checked conversion of a pair whose sides are of the classes is there, and is the exact one.
use Rattle.std.proofs.Common.{◌≡◌, inl, inr, ℕ, zero, suc, ◌-◌, ◌^◌, ◌<◌, ◌≤◌, Bool, true, false, not, List, [], ◌∷◌, ◌++◌, refl, sym, ◌∙◌}
use Rattle.std.proofs.Common.{ap, subst, arith}
use Rattle.std.specs.Prelude.{Option, Some, None, slice_index}
use Rattle.std.specs.List.{list_all}
use Rattle.std.specs.Option.{option_and_then}
use Rattle.std.proofs.lemmas.Bool.{and_parts}
use Rattle.std.proofs.lemmas.Option.{same_Some, option_and_then_some}
use Rattle.frac_math.specs.Fraction.{ℚ, nat}
use Rattle.colour_matrix.specs.declared.class.Range.{Range}
use Rattle.colour_matrix.specs.declared.matrix.Matrix.{Matrix}
use Rattle.colour_matrix.specs.Levels.{levels}
use Rattle.colour_matrix.specs.Colour.{to_rgb_rows, from_rgb_rows}
use Rattle.pix_meaning.specs.declared.pair.Side.{Side}
use Rattle.pix_meaning.specs.declared.pair.Pair.{Pair}
use Rattle.pix_meaning.specs.Pairs.{is_rgb}
use Rattle.op_list.specs.declared.types.PixType.TheVariants.{Rat}
use Rattle.op_list.specs.declared.types.Stage.{Stage}
use Rattle.op_list.specs.declared.position.PixelPosition.{PixelPosition}
use Rattle.op_list.specs.declared.op.Op.{Op}
use Rattle.op_list.specs.declared.op.Op.TheVariants.{Convert, Linear, Dither, Max, Min}
use Rattle.op_list.specs.declared.values.Values.TheVariants.{Numbers, Fractions}
use Rattle.op_list.specs.Values.{four, entry}
use Rattle.op_list.specs.Typing.{stage_after}
use Rattle.op_list.specs.Apply.{apply}
use Rattle.op_list.specs.Checked.{checked_apply}
use Rattle.op_list.specs.Run.{run_from, checked_run_from}
use Rattle.pix_meaning.specs.Channels.{channel_depth}
use Rattle.op_build.specs.Recipe.{only_if, over_three, from_codes, to_codes, to_codes_by, limits, convert}
use Rattle.op_range.specs.FractionBounds.{FractionBound, HaveBounds, bound_in, limited_bound, bounds_after, bounds_from}
use Rattle.op_build.specs.SideClasses.{SideClass, side_class_of, side_class, side_classes, IsOneOf}
use Rattle.op_build.proofs.bounds.ClassTests.{class_levels, source_ops, target_rows_ops, code_bounds, is_there, test_then, target_fits}
use Rattle.op_build.proofs.bounds.ClassTests.{source_fits}
use Rattle.op_range.proofs.FractionBounds.{nat_bound}
use Rattle.op_range.proofs.FractionBoundSteps.{of_four, run_there}
use Rattle.op_build.proofs.bounds.Classes.{classes_fit}

-- ---- what a true test gives
pub every_one : {A : Type 0} (f : A → Bool) (xs : List A) (x : A) → list_all f xs ≡ true → IsOneOf x xs → f x ≡ true
every_one f [] x h p = absurd p
every_one f (y ∷ ys) x h (inl e) = ap f e ∙ (and_parts (f y) (list_all f ys) h).0
every_one f (y ∷ ys) x h (inr p) = every_one f ys x (and_parts (f y) (list_all f ys) h).1 p

pub then_there : {A P : Type 0} (o : Option A) (f : A → Bool) → test_then o f ≡ true → ((x : A) → o ≡ Some x → f x ≡ true → P) → P
then_there None f h use_it = absurd (cc)
then_there (Some x) f h use_it = use_it x refl h

there_some : {A P : Type 0} (o : Option A) → is_there o ≡ true → ((x : A) → o ≡ Some x → P) → P
there_some None h use_it = absurd (cc)
there_some (Some x) h use_it = use_it x refl

-- ---- one list after the other
append_there : (first second : List Op) (bounds middle last : List FractionBound) → bounds_from first bounds ≡ Some middle
    → bounds_from second middle ≡ Some last
    → bounds_from (first ++ second) bounds ≡ Some last
unfolding bounds_from
append_there [] second bounds middle last p q =
    subst (λ (b : List FractionBound). bounds_from second b ≡ Some last) (sym (same_Some bounds middle p)) q
append_there (op ∷ first) second bounds middle last p q =
    option_and_then_some _ (bounds_after op bounds) middle p
    (λ next is rest. ap (λ o. option_and_then (λ next. bounds_from (first ++ second) next) o) is
    ∙ append_there first second next middle last rest q)

-- ---- the end of the list, for each size of dither
dither_after : (k : ℕ) (bounds : List FractionBound) → k ≤ 4 → bounds_after (Dither k) bounds ≡ bounds_after (Dither 4) bounds
unfolding bounds_after
dither_after zero bounds h = refl
dither_after (suc zero) bounds h = refl
dither_after (suc (suc zero)) bounds h = refl
dither_after (suc (suc (suc zero))) bounds h = refl
dither_after (suc (suc (suc (suc zero)))) bounds h = refl
dither_after (suc (suc (suc (suc (suc k))))) bounds h = absurd (omega (arith, h))

abbrev limited_after : List (Option ℚ) → List (Option ℚ) → List FractionBound → List FractionBound
limited_after greatest least bounds =
    let lower = four (λ i. limited_bound (entry greatest i) (bound_in bounds i)) in
    four (λ i. limited_bound (entry least i) (bound_in lower i))

limits_there : (greatest least : List (Option ℚ)) (bounds : List FractionBound)
    → bounds_from (Max greatest ∷ Min least ∷ []) bounds ≡ Some (limited_after greatest least bounds)
unfolding bounds_from bounds_after
limits_there greatest least bounds = refl

step_there : (op : Op) (ops : List Op) (bounds next : List FractionBound) → bounds_after op bounds ≡ Some next
    → bounds_from (op ∷ ops) bounds ≡ bounds_from ops next
unfolding bounds_from
step_there op ops bounds next h = ap (λ o. option_and_then (λ next. bounds_from ops next) o) h

end_there : (op : Op) (k : ℕ) (greatest least : List (Option ℚ)) (bounds codes last : List FractionBound) → k ≤ 4
    → bounds_after op bounds ≡ Some codes
    → bounds_after (Dither 4) codes ≡ Some last
    → bounds_from (op ∷ Dither k ∷ Max greatest ∷ Min least ∷ []) bounds ≡ Some (limited_after greatest least last)
end_there op k greatest least bounds codes last h p q =
    step_there op (Dither k ∷ Max greatest ∷ Min least ∷ []) bounds codes p
    ∙ step_there (Dither k) (Max greatest ∷ Min least ∷ []) codes last (dither_after k codes h ∙ q)
    ∙ limits_there greatest least last

-- ---- the list of two classes
abbrev pub class_list : SideClass → SideClass → ℕ → List (Option ℚ) → List (Option ℚ) → List Op
class_list from to k greatest least =
    source_ops from ++ (target_rows_ops to ++ to_codes_by (class_levels to) ∷ Dither k ∷ Max greatest ∷ Min least ∷ [])

target_there : (bounds : List FractionBound) (to : SideClass) (k : ℕ) (greatest least : List (Option ℚ)) (P : Type 0) → k ≤ 4
    → target_fits bounds to ≡ true
    → ((last : List FractionBound) → bounds_from
    (target_rows_ops to ++ to_codes_by (class_levels to) ∷ Dither k ∷ Max greatest ∷ Min least ∷ []) bounds ≡ Some last → P) → P
unfolding target_fits
target_there bounds to k greatest least P h t use_it =
    then_there (bounds_from (target_rows_ops to) bounds) _ t (λ values is_values t2.
    then_there (bounds_after (to_codes_by (class_levels to)) values) _ t2 (λ codes is_codes t3.
    there_some (bounds_after (Dither 4) codes) t3 (λ last is_last.
    use_it (limited_after greatest least last)
    (append_there (target_rows_ops to) (to_codes_by (class_levels to) ∷ Dither k ∷ Max greatest ∷ Min least ∷ []) bounds values
    (limited_after greatest least last) is_values
    (end_there (to_codes_by (class_levels to)) k greatest least values codes last h is_codes is_last)))))

classes_there : (from to : SideClass) (k : ℕ) (greatest least : List (Option ℚ)) (P : Type 0) → k ≤ 4 → IsOneOf from side_classes
    → IsOneOf to side_classes
    → ((last : List FractionBound) → bounds_from (class_list from to k greatest least)
    (code_bounds (slice_index from.depths)) ≡ Some last → P) → P
unfolding source_fits
classes_there from to k greatest least P h f t use_it =
    then_there (bounds_from (source_ops from) (code_bounds (slice_index from.depths)))
    (λ bounds. list_all (target_fits bounds) side_classes)
    (every_one (source_fits side_classes) side_classes from classes_fit f) (λ bounds is fits.
    target_there bounds to k greatest least P h (every_one (target_fits bounds) side_classes to fits t) (λ last rest.
    use_it last (append_there (source_ops from) _ _ bounds last is rest)))

-- ---- the list of a pair is that of its classes
abbrev raw_class : Side → SideClass
raw_class side = record { rgb = is_rgb side.desc; depths = four (λ c. channel_depth side.desc c); range = side.range; matrix = side.matrix }

source_same : (rgb : Bool) (depths : List ℕ) (range : Range) (matrix : Matrix)
    → source_ops (record { rgb = rgb; depths = depths; range = range; matrix = matrix })
    ≡ source_ops (side_class_of rgb depths range matrix)
unfolding levels
source_same true depths range matrix = refl
source_same false depths range matrix = refl

target_same : (rgb : Bool) (depths : List ℕ) (range : Range) (matrix : Matrix) (ops : List Op)
    → let raw : SideClass =
    record { rgb = rgb; depths = depths; range = range; matrix = matrix } in let k = side_class_of rgb depths range matrix in
    (target_rows_ops raw ++ to_codes_by (class_levels raw) ∷ ops) ≡ (target_rows_ops k ++ to_codes_by (class_levels k) ∷ ops)
unfolding levels
target_same true depths range matrix ops = refl
target_same false depths range matrix ops = refl

abbrev pub least_limits : Pair → List (Option ℚ)
least_limits pair = limits pair.to.desc (λ c. nat 0)

abbrev pub greatest_limits : Pair → List (Option ℚ)
greatest_limits pair = limits pair.to.desc (λ c. nat (2 ^ channel_depth pair.to.desc c - 1))

in_parts : (a b : Bool) (first x y last : Op) (tail : List Op)
    → (Convert Rat Bool.false ∷ first ∷ only_if a x ++ only_if b y ++ last ∷ tail)
    ≡ (Convert Rat Bool.false ∷ ((first ∷ only_if a x) ++ (only_if b y ++ last ∷ tail)))
in_parts true true first x y last tail = refl
in_parts true false first x y last tail = refl
in_parts false true first x y last tail = refl
in_parts false false first x y last tail = refl

pub convert_classes : (pair : Pair)
    → convert pair
    ≡ Convert Rat Bool.false ∷ class_list (side_class pair.from) (side_class pair.to) pair.dither (least_limits pair) (greatest_limits pair)
unfolding convert from_codes to_codes
convert_classes pair =
    let from = pair.from in
    let to = pair.to in
    let tail = Dither pair.dither ∷ Max (least_limits pair) ∷ Min (greatest_limits pair) ∷ [] in
    in_parts (not (is_rgb from.desc)) (not (is_rgb to.desc)) (from_codes from) (Linear (over_three (to_rgb_rows from.matrix)))
    (Linear (over_three (from_rgb_rows to.matrix))) (to_codes to) tail
    ∙ ap (λ ops. Convert Rat Bool.false ∷ (ops ++ (target_rows_ops (raw_class to) ++ to_codes_by (class_levels (raw_class to)) ∷ tail)))
    (source_same (is_rgb from.desc) (four (λ c. channel_depth from.desc c)) from.range from.matrix)
    ∙ ap (λ ops. Convert Rat Bool.false ∷ (source_ops (side_class from) ++ ops))
    (target_same (is_rgb to.desc) (four (λ c. channel_depth to.desc c)) to.range to.matrix tail)

-- ---- from the codes
codes_bounded : (code depth : ℕ → ℕ) → ((c : ℕ) → c < 4 → code c < 2 ^ depth c)
    → HaveBounds (Fractions (four (λ c. nat (code c)))) (code_bounds depth)
codes_bounded code depth h = record {
  each = of_four (λ c. nat (code c)) _ _ _ _
      (nat_bound (code 0) (2 ^ depth 0 - 1) (omega (arith, h 0 (omega arith))))
      (nat_bound (code 1) (2 ^ depth 1 - 1) (omega (arith, h 1 (omega arith))))
      (nat_bound (code 2) (2 ^ depth 2 - 1) (omega (arith, h 2 (omega arith))))
      (nat_bound (code 3) (2 ^ depth 3 - 1) (omega (arith, h 3 (omega arith))));
}

converted_there : (frame : List ℕ) (position : PixelPosition) (stage : Stage) (ops : List Op) (code depth : ℕ → ℕ)
    (last : List FractionBound) → ((c : ℕ) → c < 4 → code c < 2 ^ depth c)
    → bounds_from ops (code_bounds depth) ≡ Some last
    → checked_run_from frame position stage (Convert Rat Bool.false ∷ ops) (Numbers (four code))
    ≡ Some (run_from frame position stage (Convert Rat Bool.false ∷ ops) (Numbers (four code)))
unfolding checked_run_from run_from checked_apply apply
converted_there frame position stage ops code depth last h is =
    (run_there frame position (stage_after stage (Convert Rat Bool.false)) ops (Fractions (four (λ c. nat (code c))))
    (code_bounds depth) last (codes_bounded code depth h) is).there

-- the checked conversion gives what the exact one gives
pub converting_is_there : (pair : Pair) (frame : List ℕ) (position : PixelPosition) (stage : Stage) (code : ℕ → ℕ)
    → IsOneOf (side_class pair.from) side_classes → IsOneOf (side_class pair.to) side_classes → pair.dither ≤ 4
    → ((c : ℕ) → c < 4 → code c < 2 ^ channel_depth pair.from.desc c)
    → checked_run_from frame position stage (convert pair) (Numbers (four code))
    ≡ Some (run_from frame position stage (convert pair) (Numbers (four code)))
converting_is_there pair frame position stage code from to k h =
    classes_there (side_class pair.from) (side_class pair.to) pair.dither (least_limits pair) (greatest_limits pair) _ k from to (λ last is.
    subst (λ (ops : List Op). checked_run_from frame position stage ops (Numbers (four code)) ≡ Some
    (run_from frame position stage ops (Numbers (four code)))) (sym (convert_classes pair))
    (converted_there frame position stage _ code (channel_depth pair.from.desc) last h is))
