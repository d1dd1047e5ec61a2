use Rattle.std.proofs.Common.{◌≡◌, ◌-◌, length, arith}
use Rattle.kernel_int.proofs.block.run_steps.Goals as goal

pub returns-in-None-clause-holds : goal.returns-in-None-clause-holds
returns-in-None-clause-holds g c =
    let before : length c.args.ops.now - 1 - 1 ≡ length c.args.ops.now - 2 = omega arith in
    rw (← before) c.plain_steps.ensures.holds
