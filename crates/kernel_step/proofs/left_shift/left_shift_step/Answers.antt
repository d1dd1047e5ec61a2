use Rattle.std.proofs.Common.{◌*◌, ◌%◌, ◌^◌}
use Rattle.op_list.specs.declared.op.Op.TheVariants.{LeftShift}
use Rattle.op_list.proofs.Applied.{left_shift}
use Rattle.kernel_step.proofs.MappedSteps.{mapped_bounded, mapped_performs}
use Rattle.kernel_step.proofs.WholeSteps.{left_map, left_room}
use Rattle.kernel_step.proofs.left_shift.left_shift_step.Goals as goal

pub change_front-requires-clause-takes : goal.change_front-requires-clause-takes
change_front-requires-clause-takes g c =
    λ j x below. (
      rw c.bits.ensures (left_shift c.args.stage c.args.n c.requires.good),
      rw c.bits.ensures (left_room c.args.stage c.args.n g.W.WholeNumber.bits c.requires.stored),
    )

pub returns-clause-bounded : goal.returns-clause-bounded
returns-clause-bounded g c =
    mapped_bounded g.W.WholeNumber.number g.N.Numerator.value c.args.stage (LeftShift c.args.n)
    (λ m. m * 2 ^ c.args.n % 2 ^ c.bits.result) c.args.before.now c.args.after.now c.args.values.now c.change_front.new.v
    c.args._numbers.now
    (left_map c.args.stage c.args.n c.bits.result c.bits.ensures c.requires.follows c.requires.good) c.requires.step
    c.change_front.ensures.set c.requires.bounded

pub returns-clause-holds : goal.returns-clause-holds
returns-clause-holds g c =
    mapped_performs g.W.WholeNumber.number g.N.Numerator.value c.args.stage (LeftShift c.args.n)
    (λ m. m * 2 ^ c.args.n % 2 ^ c.bits.result) c.args.before.now c.args.after.now c.args._position.now c.args.values.now
    c.change_front.new.v c.args._numbers.now
    (left_map c.args.stage c.args.n c.bits.result c.bits.ensures c.requires.follows c.requires.good) c.requires.few c.requires.step
    c.change_front.ensures.set
