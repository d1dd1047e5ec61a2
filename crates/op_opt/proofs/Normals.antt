-- The normal list is reached, and writes the same.
use Rattle.std.proofs.Common.{◌≡◌, ℕ, zero, suc, ◌<◌, ◌≤◌, true, List, All, refl, sym, ◌∙◌, ap, arith}
use Rattle.std.specs.Prelude.{Some, None, Result, Ok, Err, IfOk}
use Rattle.op_list.specs.declared.types.Stage.TheVariants.{Start}
use Rattle.op_list.specs.declared.position.PixelPosition.{PixelPosition}
use Rattle.op_list.specs.declared.op.Op.{Op}
use Rattle.op_list.specs.Typing.{ends_with_write, IsOpList}
use Rattle.op_list.specs.Values.{four, number, no_values}
use Rattle.op_list.specs.Run.{run}
use Rattle.op_range.specs.Ranges.{start_ranges, only_zero, range_in}
use Rattle.op_range.specs.Within.{AreWithin, IsWithin, value_of}
use Rattle.frac_math.specs.Fraction.{nat}
use Rattle.frac_math.proofs.FractionOrder.{le_refl_ℚ}
use Rattle.op_range.specs.Within.{AreSmall}
use Rattle.op_opt.specs.Weight.{weight}
use Rattle.op_opt.specs.declared.edit.Edit.{Edit}
use Rattle.op_opt.specs.Edits.{edited}
use Rattle.op_opt.specs.Normal.{step, next_or, normal_within, normal}
use Rattle.op_opt.specs.Passes.{change_at}
use Rattle.op_opt.proofs.Places.{applies_nowhere}
use Rattle.op_opt.specs.Laws.{IsImproved, EachPassImproves, IsNormalOf, NormalIsReached}
use Rattle.op_opt.proofs.Ends.{first_index, last_index}
use Rattle.op_opt.proofs.Replacing.{At, Improves}
use Rattle.op_opt.proofs.Walk.{first_place_improves, passes_sound, step_improves}

-- ---- one step
start_within : AreWithin start_ranges no_values
start_within = record { each = λ i below. at_start i below }
  where
    zero_within : IsWithin only_zero (nat 0)
    zero_within = record { above = le_refl_ℚ (nat 0); below = le_refl_ℚ (nat 0); integral = λ h. refl }

    at_start : (i : ℕ) → i < 4 → IsWithin (range_in start_ranges i) (value_of no_values i)
    at_start zero below = zero_within
    at_start (suc zero) below = zero_within
    at_start (suc (suc zero)) below = zero_within
    at_start (suc (suc (suc zero))) below = zero_within
    at_start (suc (suc (suc (suc i)))) below = absurd (omega arith)

start_small : AreSmall Start no_values
start_small = record { each = λ i below. zero_at i }
  where
    zero_at : (i : ℕ) → number no_values i < 1
    zero_at zero = omega arith
    zero_at (suc zero) = omega arith
    zero_at (suc (suc zero)) = omega arith
    zero_at (suc (suc (suc zero))) = omega arith
    zero_at (suc (suc (suc (suc i)))) = omega arith

start_at : (ops : List Op) (frame : List ℕ) → IsOpList ops → ends_with_write ops ≡ true → All (λ byte. byte < 256) frame
    → At Start start_ranges ops frame no_values
start_at ops frame list last bytes = record {
  typed = list.typed;
  last = last;
  bytes = bytes;
  kind = refl;
  within = start_within;
  small =
      start_small;
}

improved : (ops after : List Op) → IsOpList ops → ends_with_write ops ≡ true → Improves Start start_ranges ops after → IsImproved ops after
unfolding run
improved ops after list last i = record {
  list = record { typed = i.typed list.typed; size = omega (arith, i.shorter, list.size) };
  last = i.last last;
  lighter = i.lighter;
  shorter = i.shorter;
  ends = record {
    reads = λ other. first_index other after ∙ i.first refl list.typed other ∙ sym (first_index other ops);
    writes = λ other. last_index other after ∙ i.final last other ∙ sym (last_index other ops);
  };
  same = λ frame width rows x row y bytes.
      (let position : PixelPosition = record { width = width; rows = rows; x = x; row = row; y = y } in
      ap (λ values. four (λ k. number values k)) (i.same frame position no_values (start_at ops frame list last bytes)));
}

pub pass_improves : EachPassImproves
pass_improves = λ pass ops after list last is.
    improved ops after list last (first_place_improves (change_at pass) (passes_sound pass) Start start_ranges ops after is)

step_improved : (ops after : List Op) → step ops ≡ Some after → IsOpList ops → ends_with_write ops ≡ true → IsImproved ops after
step_improved ops after is list last = improved ops after list last (step_improves ops after is)

-- ---- all steps
settled : (ops : List Op) → step ops ≡ None → IsOpList ops → ends_with_write ops ≡ true → IsNormalOf ops ops
settled ops is list last = record {
  normal = record { list = list; last = last; settled = applies_nowhere ops is };
  lighter = omega arith;
  shorter = omega arith;
  ends = record { reads = λ other. refl; writes = λ other. refl };
  same = λ frame width rows x row y bytes. refl;
}

-- behind a step
behind : (ops next after : List Op) → IsImproved ops next → IsNormalOf next after → IsNormalOf ops after
behind ops next after i n = record {
  normal = n.normal;
  lighter = omega (arith, i.lighter, n.lighter);
  shorter = omega (arith, i.shorter, n.shorter);
  ends = record {
    reads = λ other. n.ends.reads other ∙ i.ends.reads other;
    writes = λ other. n.ends.writes other ∙ i.ends.writes other;
  };
  same = λ frame width rows x row y bytes. n.same frame width rows x row y bytes ∙ i.same frame width rows x row y bytes;
}

steps_normal : (steps : ℕ) (ops : List Op) → weight ops ≤ steps → IsOpList ops → ends_with_write ops ≡ true
    → IsNormalOf ops (normal_within steps ops)
unfolding normal_within
steps_normal zero ops light list last =
    (elim (step ops) as (λ s. step ops ≡ s → IsNormalOf ops ops) [
      | None ↦ λ is. settled ops is list last
      | Some next ↦ λ is. absurd (let i = step_improves ops next is in omega (arith, i.lighter))
    ]) refl
steps_normal (suc steps) ops light list last =
    (elim (step ops) as (λ s. step ops ≡ s → IsNormalOf ops (next_or ops (λ next. normal_within steps next) s)) [
      | None ↦ λ is. settled ops is list last
      | Some next ↦ λ is.
          (let i = step_improved ops next is list last in
          behind ops next (normal_within steps next) i (steps_normal steps next (omega (arith, i.lighter)) i.list i.last))
    ]) refl

pub normal_reached : NormalIsReached
unfolding normal
normal_reached = λ ops list last. steps_normal (weight ops) ops (omega arith) list last

-- ---- more steps than the weight change nothing
steps_enough : (m n : ℕ) (ops : List Op) → weight ops ≤ m → weight ops ≤ n → normal_within m ops ≡ normal_within n ops
unfolding normal_within
steps_enough zero zero ops p q = refl
steps_enough zero (suc n) ops p q =
    (elim (step ops) as (λ s. step ops ≡ s → ops ≡ next_or ops (λ next. normal_within n next) s) [
      | None ↦ λ is. refl
      | Some next ↦ λ is. absurd (let i = step_improves ops next is in omega (arith, i.lighter))
    ]) refl
steps_enough (suc m) zero ops p q =
    (elim (step ops) as (λ s. step ops ≡ s → next_or ops (λ next. normal_within m next) s ≡ ops) [
      | None ↦ λ is. refl
      | Some next ↦ λ is. absurd (let i = step_improves ops next is in omega (arith, i.lighter))
    ]) refl
steps_enough (suc m) (suc n) ops p q =
    (elim (step ops) as (λ s. step ops ≡ s → next_or ops (λ next. normal_within m next) s ≡ next_or ops (λ next. normal_within n next) s) [
      | None ↦ λ is. refl
      | Some next ↦ λ is. (let i = step_improves ops next is in steps_enough m n next (omega (arith, i.lighter)) (omega (arith, i.lighter)))
    ]) refl

within_one_more : (n : ℕ) (ops next : List Op) → step ops ≡ Some next → normal_within (suc n) ops ≡ normal_within n next
unfolding normal_within
within_one_more n ops next is = ap (next_or ops (λ list. normal_within n list)) is

pub normal_of_next : (ops next : List Op) → step ops ≡ Some next → normal next ≡ normal ops
unfolding normal
normal_of_next ops next is =
    let i = step_improves ops next is in
    steps_enough (weight next) (weight ops) next (omega arith) (omega (arith, i.lighter))
    ∙ sym (within_one_more (weight ops) ops next is)
    ∙ steps_enough (suc (weight ops)) (weight ops) ops (omega arith) (omega arith)

within_at_end : (n : ℕ) (ops : List Op) → step ops ≡ None → ops ≡ normal_within n ops
unfolding normal_within
within_at_end zero ops is = refl
within_at_end (suc n) ops is = sym (ap (next_or ops (λ list. normal_within n list)) is)

pub normal_at_end : (ops : List Op) → step ops ≡ None → ops ≡ normal ops
unfolding normal
normal_at_end ops is = within_at_end (weight ops) ops is

pub next_lighter : (ops next : List Op) → step ops ≡ Some next → weight next < weight ops
next_lighter ops next is = (step_improves ops next is).lighter

-- ---- by the code's next change
pub next_of_code : (list ops again next : List Op) (edit : Edit) → ops ≡ list → again ≡ list → step ops ≡ Some (edited ops edit)
    → next ≡ edited again edit → step list ≡ Some next
next_of_code list ops again next edit same too is made =
    ap step (sym same) ∙ is ∙ ap (λ o. Some (edited o edit)) (same ∙ sym too) ∙ ap Some (sym made)

pub next_whole : (ops next : List Op) → step ops ≡ Some next → ends_with_write ops ≡ true → ends_with_write next ≡ true
next_whole ops next is last = (step_improves ops next is).last last

-- ---- what the code's step owes
pub next_sound : (ops next : List Op) → step ops ≡ Some next → IsOpList ops → ends_with_write ops ≡ true → IsOpList next
next_sound ops next is list last = (step_improved ops next is list last).list

pub normal_here : (ops : List Op) → step ops ≡ None → IsOpList ops → ends_with_write ops ≡ true → IsNormalOf ops ops
normal_here ops is list last = settled ops is list last

pub normals_behind : {E : Type 0} (ops next : List Op) (result : Result (List Op) E) → step ops ≡ Some next → IsOpList ops
    → ends_with_write ops ≡ true
    → IfOk result (λ after. IsNormalOf next after) → IfOk result (λ after. IsNormalOf ops after)
normals_behind ops next (Ok after) is list last n = behind ops next after (step_improved ops next is list last) n
normals_behind ops next (Err fault) is list last n = tt
