use Rattle.std.proofs.Common.{arith}
use Rattle.op_list.proofs.GivenEntries.{all_fit_at}
use Rattle.op_list.proofs.entries.cleared_numbers.Goals as goal

pub cleared_number-requires-4-clause-fits : goal.cleared_number-requires-4-clause-fits
cleared_number-requires-4-clause-fits c = all_fit_at c.args.bits c.args.entries.now 3 _ (omega arith) c.requires.fit
