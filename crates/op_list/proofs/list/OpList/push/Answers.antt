use Rattle.std.proofs.Common.{arith, rules}
use Rattle.op_list.proofs.Typed.{pushed}
use Rattle.op_list.proofs.list.OpList.push.Goals as goal

pub invariant_of-self-2 : goal.invariant_of-self-2
invariant_of-self-2 c =
    rw (c.in_ok-append.ensures.ok, c.stage_after-stage.ensures)
    (pushed c.self.inside.ops.items c.self.inside.stage c.args.op c.self.invariant (search rules) (search rules) (omega arith))
