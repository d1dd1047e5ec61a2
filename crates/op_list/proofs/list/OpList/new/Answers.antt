use Rattle.std.proofs.Common.{[], refl, arith}
use Rattle.op_list.specs.declared.types.Stage.TheVariants.{Start}
use Rattle.op_list.specs.Typing.{LeavesStage, are_typed, stage_from}
use Rattle.op_list.proofs.list.OpList.new.Goals as goal

empty : LeavesStage [] Start
unfolding are_typed stage_from
empty = record { sound = record { typed = refl; size = omega arith }; last = refl }

pub invariant_of-result : goal.invariant_of-result
invariant_of-result c = rw c.new.ensures.items empty
