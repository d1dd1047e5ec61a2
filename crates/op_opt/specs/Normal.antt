-- The normal list: the first pass that applies, at its first place, again and again.
use Rattle.std.specs.Prelude.{◌≡◌, ℕ, zero, suc, true, List, [], ◌∷◌, ◌++◌, Option, Some, None}
use Rattle.op_list.specs.declared.types.Stage.TheVariants.{Start}
use Rattle.op_list.specs.declared.op.Op.{Op}
use Rattle.op_list.specs.Typing.{stage_of, IsOpList, ends_with_write}
use Rattle.op_range.specs.Ranges.{start_ranges, ranges_from}
use Rattle.op_opt.specs.declared.pass.Pass.{Pass}
use Rattle.op_opt.specs.Changes.{first_place}
use Rattle.op_opt.specs.OfFour.{or_else}
use Rattle.op_opt.specs.Passes.{change_at, passes}
use Rattle.op_opt.specs.Weight.{weight}

-- the list after the first of some passes that applies anywhere
unfoldable pub first_of_passes : List Pass → List Op → Option (List Op)
first_of_passes [] ops = None
first_of_passes (pass ∷ rest) ops = or_else (first_place (change_at pass) Start start_ranges ops) (first_of_passes rest ops)

-- the list after the next change
unfoldable pub step : List Op → Option (List Op)
step ops = first_of_passes passes ops

-- what is made of the next list, or this list where there is none
abbrev pub next_or : List Op → (List Op → List Op) → Option (List Op) → List Op
next_or ops go None = ops
next_or ops go (Some next) = go next

-- at most so many steps
unfoldable pub normal_within : ℕ → List Op → List Op
normal_within zero ops = ops
normal_within (suc steps) ops = next_or ops (λ next. normal_within steps next) (step ops)

-- each step lowers the weight, so there are no more steps than that
unfoldable pub normal : List Op → List Op
normal ops = normal_within (weight ops) ops

-- a pass applies at no operation of the list
abbrev pub AppliesNowhere : Pass → List Op → Type 0
AppliesNowhere pass ops = (front : List Op) (op : Op) (rest : List Op) → front ++ op ∷ rest ≡ ops
    → change_at pass (stage_of front) (ranges_from Start front start_ranges) (op ∷ rest) ≡ None

-- a whole list to which no pass applies
pub record IsNormal (ops : List Op) : Type 0 where
  pub list : IsOpList ops
  pub last : ends_with_write ops ≡ true
  pub settled : (pass : Pass) → AppliesNowhere pass ops
