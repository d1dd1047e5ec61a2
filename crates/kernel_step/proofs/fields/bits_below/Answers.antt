use Rattle.std.proofs.Common.{arith}
use Rattle.op_list.proofs.Four.{bits_below_first}
use Rattle.kernel_step.proofs.fields.bits_below.Goals as goal

pub returns-in-0 : goal.returns-in-0
returns-in-0 c = rw c.in-0.is (omega (arith, bits_below_first c.args.widths.now (omega arith)))
