use Rattle.std.proofs.Common.{◌≡◌, ◌-◌, length}
use Rattle.std.specs.Prelude.{Some, None, slice_get}
use Rattle.op_list.proofs.Steps.{whole_is, whole_none}
use Rattle.op_list.proofs.list.OpList.whole.Goals as goal

pub returns-in-Some : goal.returns-in-Some
returns-in-Some c =
    let ops = c.args.self.now in
    let last : Some c.in-Some.op.now ≡ slice_get ops (length ops - 1) = rw c.ops.ensures.same at c.in-Some.ensures.value in
    whole_is ops c.in-Some.op.now c.is_write.result last c.is_write.ensures

pub returns-in-None : goal.returns-in-None
returns-in-None c =
    let ops = c.args.self.now in
    let last : None ≡ slice_get ops (length ops - 1) = rw c.ops.ensures.same at c.in-None.ensures.value in
    whole_none ops last
