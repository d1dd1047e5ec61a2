use Rattle.std.proofs.Common.{◌≡◌, take}
use Rattle.op_list.proofs.tests.list_of.Given as goal

abbrev pub invariant-loop-op : goal.invariant-loop-op
invariant-loop-op l = l.list ≡ take l.op-index l.ops
