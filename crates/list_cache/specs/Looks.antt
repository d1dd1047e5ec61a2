-- What a look answers.
use Rattle.std.specs.Prelude.{◌≡◌, ◌≢◌, ℕ, Option}
use Rattle.std.specs.declared.option.Option.TheVariants.{Some}
use Rattle.pix_meaning.specs.declared.pair.Pair.{Pair}
use Rattle.row_plan.specs.declared.plans.Plan.{Plan}
use Rattle.list_cache.specs.Cells.{KnowsPair}
use Rattle.list_cache.specs.declared.seen.Seen.{Seen}
use Rattle.list_cache.specs.declared.seen.Seen.TheVariants.{Shared, Own}

-- An own plan has the stamp asked, and comes only where the note knows a plan of another pair than was asked.
pub record IsOwn (asked : Pair) (stamp : ℕ) (known : Option Plan) (plan : Plan) (other : Pair) : Type 0 where
  pub stamped : plan.stamp ≡ stamp
  pub kept : KnowsPair known other
  pub differs : other ≢ asked

-- A shared plan is the one that the note knows.
abbrev pub IsSeen : Pair → ℕ → Option Plan → Seen → Type 0
IsSeen asked stamp known (Shared plan) = known ≡ Some plan.now
IsSeen asked stamp known (Own plan other) = IsOwn asked stamp known plan other

-- It is the plan of the cell.
abbrev pub IsSharedPlan : Seen → Type 0
IsSharedPlan (Shared plan) = Unit {0}
IsSharedPlan (Own plan other) = ⊥

-- its plan, whoever has it
abbrev pub plan_of : Seen → Plan
plan_of (Shared plan) = plan.now
plan_of (Own plan other) = plan
