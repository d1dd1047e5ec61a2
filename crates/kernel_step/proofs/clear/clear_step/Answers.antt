use Rattle.kernel_step.proofs.ClearSteps.{clear_stored}
use Rattle.kernel_step.proofs.clear.clear_step.Goals as goal

pub clear_numbers-requires-clause-stored : goal.clear_numbers-requires-clause-stored
clear_numbers-requires-clause-stored g c = clear_stored c.args.stage c.args.entries.now g.W.WholeNumber.bits c.requires.stored
