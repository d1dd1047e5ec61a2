use Rattle.std.proofs.Common.{◌/◌}
use Rattle.op_list.specs.declared.op.Op.TheVariants.{SwapBytes}
use Rattle.op_list.specs.Whole.{reversed_bytes}
use Rattle.kernel_step.proofs.MappedSteps.{mapped_fits, mapped_bounded, mapped_performs}
use Rattle.kernel_step.proofs.WholeSteps.{swap_bits, swap_map}
use Rattle.kernel_step.proofs.swap_bytes.swap_bytes_step.Goals as goal

pub change_front-requires-clause-takes : goal.change_front-requires-clause-takes
change_front-requires-clause-takes g c =
    λ j x below. (
      rw c.bits.ensures (swap_bits c.args.stage c.requires.follows),
      mapped_fits g.W.WholeNumber.number g.N.Numerator.value g.W.WholeNumber.bits c.args.stage SwapBytes
          (λ m. reversed_bytes (c.bits.result / 8) m) c.args.before.now c.args.after.now c.args.values.now c.args._numbers.now
          (swap_map c.args.stage c.bits.result c.bits.ensures c.requires.follows c.requires.good) c.requires.step c.requires.stored
          c.requires.bounded
          j x below,
    )

pub returns-clause-bounded : goal.returns-clause-bounded
returns-clause-bounded g c =
    mapped_bounded g.W.WholeNumber.number g.N.Numerator.value c.args.stage SwapBytes
    (λ m. reversed_bytes (c.bits.result / 8) m) c.args.before.now c.args.after.now c.args.values.now c.change_front.new.v
    c.args._numbers.now
    (swap_map c.args.stage c.bits.result c.bits.ensures c.requires.follows c.requires.good) c.requires.step c.change_front.ensures.set
    c.requires.bounded

pub returns-clause-holds : goal.returns-clause-holds
returns-clause-holds g c =
    mapped_performs g.W.WholeNumber.number g.N.Numerator.value c.args.stage SwapBytes
    (λ m. reversed_bytes (c.bits.result / 8) m) c.args.before.now c.args.after.now c.args._position.now c.args.values.now
    c.change_front.new.v c.args._numbers.now
    (swap_map c.args.stage c.bits.result c.bits.ensures c.requires.follows c.requires.good) c.requires.few c.requires.step
    c.change_front.ensures.set
