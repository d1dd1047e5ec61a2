-- The plan that an owner keeps.
use Rattle.std.specs.Prelude.{◌≡◌, Option, None, Some, Result, Ok}
use Rattle.std.specs.Arc.{arc_value}
use Rattle.row_plan.specs.declared.plans.Plan.{Plan}
use Rattle.pix_meaning.specs.declared.pair.Pair.{Pair}
use Rattle.frame_calls.specs.declared.refusal.Refusal.{Refusal}
use Rattle.sws_c.specs.declared.shared_plan.SharedPlan.{SharedPlan}

-- the plan, where the owner is open
abbrev pub plan_kept : Option SharedPlan → Option Plan
plan_kept (Some shared) = Some (arc_value shared.plan)
plan_kept None = None

-- An owner is open, and its plan is that of the pair that was asked for.
abbrev pub IsPlanOf : Option SharedPlan → Result Pair Refusal → Type 0
IsPlanOf (Some shared) asked = asked ≡ Ok (arc_value shared.plan).pair
IsPlanOf None asked = ⊥
