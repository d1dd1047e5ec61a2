use Rattle.std.proofs.Common.{◌≡◌, Option, Some, None, ◌∙◌, ap}
use Rattle.std.specs.Prelude.{IfSome}
use Rattle.std.specs.Option.{option_map}
use Rattle.op_range.specs.Ranges.{start_ranges}
use Rattle.op_opt.specs.OfFour.{or_else}
use Rattle.op_opt.specs.Normal.{first_of_passes, step}
use Rattle.op_opt.specs.Edits.{edited}
use Rattle.op_opt.proofs.edit.first_without_ranges.Goals as goal

-- the second of two, where the first is none
second_found : {A B : Type 0} (f : A → B) (first second rest : Option B) (result : Option A) → first ≡ None → second ≡ option_map f result
    → IfSome result (λ found. or_else first (or_else second rest) ≡ Some (f found))
second_found f first second rest None none is = tt
second_found f first second rest (Some found) none is =
    ap (λ o. or_else o (or_else second rest)) none ∙ ap (λ o. or_else None (or_else o rest)) is

pub returns-in-None-clause-value : goal.returns-in-None-clause-value
unfolding step first_of_passes
returns-in-None-clause-value c =
    second_found (λ edit. edited c.args.ops.now edit) _ _ _ c.first_place_without_ranges-in-None.result
    (c.in-None.ensures.value start_ranges) (c.first_place_without_ranges-in-None.ensures.value start_ranges)
