-- Two swizzles as one.
use Rattle.std.proofs.Common.{◌≡◌, ℕ, ◌<◌, ◌≤◌, Bool, true, false, not, if◌then◌else◌, List, [], ◌∷◌, All, lt-ltb, subst, refl, sym, ◌∙◌}
use Rattle.std.proofs.Common.{ap, arith}
use Rattle.std.specs.Prelude.{Some, slice_index, nat_eq, nat_lt}
use Rattle.std.specs.List.{list_all}
use Rattle.std.proofs.lemmas.Option.{same_Some, none-some}
use Rattle.op_list.specs.declared.types.Stage.{Stage}
use Rattle.op_list.specs.declared.position.PixelPosition.{PixelPosition}
use Rattle.op_list.specs.declared.op.Op.{Op}
use Rattle.op_list.specs.declared.op.Op.TheVariants.{Swizzle}
use Rattle.op_list.specs.declared.values.Values.{Values}
use Rattle.op_list.specs.declared.values.Values.TheVariants.{Numbers, Fractions}
use Rattle.op_list.specs.Typing.{may_follow, are_good, stage_after, stage_from, are_typed}
use Rattle.op_list.specs.Values.{four, fraction_in}
use Rattle.frac_math.specs.Fraction.{nat}
use Rattle.std.proofs.lemmas.Bool.{and_from}
use Rattle.op_list.proofs.Applied.{swizzle_lanes}
use Rattle.op_list.proofs.Four.{get_or-four, same_four}
use Rattle.op_range.proofs.UsedSteps.{index_below}
use Rattle.op_list.proofs.Typed.{typed_parts}
use Rattle.op_list.specs.Apply.{apply, swizzled}
use Rattle.op_list.specs.Run.{run_from}
use Rattle.op_range.specs.declared.range.ValueRange.{ValueRange}
use Rattle.op_opt.specs.declared.change.Change.{Change}
use Rattle.op_opt.specs.JoinSwizzles.{join_swizzles}
use Rattle.op_opt.specs.Weight.{weight, weight_of}
use Rattle.op_opt.specs.OfFour.{count_of_four}
use Rattle.op_opt.proofs.Replacing.{IsSound, Replaces, Replacement}

-- ---- the weight
pub at_most_four : (test : ℕ → Bool) → count_of_four test ≤ 4
at_most_four test = let a = one_or_none (test 0) in let b = one_or_none (test 1) in let c = one_or_none (test 2) in
    let d = one_or_none (test 3) in omega arith
  where
    one_or_none : (b : Bool) → (if b then 1 else 0) ≤ 1
    one_or_none true = omega arith
    one_or_none false = omega arith

lighter : (first second from : List ℕ) → weight (Swizzle from ∷ []) < weight (Swizzle first ∷ Swizzle second ∷ [])
unfolding weight weight_of
lighter first second from = omega (arith, at_most_four (λ i. not (nat_eq (slice_index from i) i)))

-- ---- the type
joined_below : (first second : List ℕ) → All (λ i. i < 4) first → list_all (λ i. nat_lt i 4) (four
    (λ i. slice_index first (slice_index second i))) ≡ true
joined_below first second good =
    let test : (i : ℕ) → nat_lt (slice_index first (slice_index second i)) 4 ≡ true = λ i. lt-ltb _ 4 (index_below first good
    (slice_index second i)) in
    and_from _ _ (test 0) (and_from _ _ (test 1) (and_from _ _ (test 2) (and_from _ true (test 3) refl)))

typed : (stage : Stage) (first second : List ℕ) → are_typed stage (Swizzle first ∷ Swizzle second ∷ []) ≡ true
    → (are_typed stage (Swizzle (four (λ i. slice_index first (slice_index second i))) ∷ []) ≡ true)
    × (stage_from stage (Swizzle (four (λ i. slice_index first (slice_index second i))) ∷ []) ≡ stage_from stage (Swizzle first
    ∷ Swizzle second ∷ []))
unfolding are_typed stage_from may_follow are_good stage_after
typed stage first second h =
    let t = typed_parts stage (Swizzle first) (Swizzle second ∷ []) h in
    (and_from _ true (and_from _ _ t.0 (joined_below first second (swizzle_lanes stage first t.1))) refl, refl)

-- ---- the values
swizzled_twice : (first second : List ℕ) (v : Values) → All (λ i. i < 4) second
    → swizzled (four (λ i. slice_index first (slice_index second i))) v ≡ swizzled second (swizzled first v)
swizzled_twice first second (Numbers v) good =
    ap Numbers (same_four _ _ (λ i below. ap (slice_index v) (get_or-four (λ j. slice_index first (slice_index second j)) i 0 below)
    ∙ sym (get_or-four (λ j. slice_index v (slice_index first j)) (slice_index second i) 0 (index_below second good i))))
swizzled_twice first second (Fractions v) good =
    ap Fractions (same_four _ _ (λ i below. ap (fraction_in v) (get_or-four (λ j. slice_index first (slice_index second j)) i 0 below)
    ∙ sym (get_or-four (λ j. fraction_in v (slice_index first j)) (slice_index second i) (nat 0) (index_below second good i))))

same : (frame : List ℕ) (position : PixelPosition) (stage : Stage) (first second : List ℕ) (rest : List Op) (v : Values)
    → All (λ i. i < 4) second
    → run_from frame position stage (Swizzle (four (λ i. slice_index first (slice_index second i)))
    ∷ rest) v ≡ run_from frame position stage (Swizzle first ∷ Swizzle second ∷ rest) v
unfolding run_from apply stage_after
same frame position stage first second rest v good = ap (λ w. run_from frame position stage rest w) (swizzled_twice first second v good)

replaces : (stage : Stage) (ranges : List ValueRange) (first second : List ℕ) (rest : List Op)
    → Replaces stage ranges (Swizzle first ∷ Swizzle second ∷ []) (Some (Swizzle (four
    (λ i. slice_index first (slice_index second i))))) rest
replaces stage ranges first second rest = record {
  inner = refl;
  unread = refl;
  lighter = lighter first second _;
  typed = typed stage first second;
  same = λ frame position v at.
      (let t = typed_parts stage (Swizzle first) (Swizzle second ∷ rest) at.typed in
      let u = typed_parts (stage_after stage (Swizzle first)) (Swizzle second) rest t.2 in
      same frame position stage first second rest v (swizzle_lanes (stage_after stage (Swizzle first)) second u.1));
}

pub join_swizzles_sound : IsSound (λ stage ranges ops. join_swizzles ops)
unfolding join_swizzles
join_swizzles_sound stage ranges (Swizzle first ∷ Swizzle second ∷ rest) change is =
    subst (λ (c : Change). Replacement stage ranges (Swizzle first ∷ Swizzle second ∷ rest) c) (same_Some _ change is)
    (record {
      old = Swizzle first ∷ Swizzle second ∷ [];
      rest = rest;
      split = refl;
      behind = refl;
      replaces =
          replaces stage ranges first second rest;
    })
join_swizzles_sound stage ranges _ change is = absurd (none-some change is)
