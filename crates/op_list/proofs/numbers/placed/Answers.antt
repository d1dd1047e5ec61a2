use Rattle.op_list.proofs.Fields.{placed_below}
use Rattle.op_list.proofs.numbers.placed.Goals as goal

pub returns-clause-small : goal.returns-clause-small
returns-clause-small c =
    rw (c.power.ensures, c.power-2.ensures, c.from.ensures, c.from-2.ensures) (placed_below c.args.value c.args.width c.args.below)
