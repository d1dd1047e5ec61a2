use Rattle.std.proofs.Common.{◌*◌, ◌%◌, ◌^◌}
use Rattle.op_list.specs.declared.op.Op.TheVariants.{Convert}
use Rattle.op_list.specs.declared.types.Stage.TheVariants.{Typed}
use Rattle.op_list.proofs.Applied.{bits_most}
use Rattle.kernel_step.proofs.MappedSteps.{mapped_fits, mapped_bounded, mapped_performs}
use Rattle.kernel_step.proofs.WholeSteps.{retype_map}
use Rattle.kernel_step.proofs.whole_types.retype_step.Goals as goal

pub change_front-requires-clause-takes : goal.change_front-requires-clause-takes
change_front-requires-clause-takes g c =
    λ j x below. (
      rw c.bits.ensures (bits_most (Typed c.args.to)),
      mapped_fits g.W.WholeNumber.number g.N.Numerator.value g.W.WholeNumber.bits c.args.stage (Convert c.args.to c.args.expand)
          (λ m. m * c.factor_of.result % 2 ^ c.bits.result) c.args.before.now c.args.after.now c.args.values.now c.args._numbers.now
          (retype_map c.args.stage c.args.to c.args.expand c.factor_of.result c.bits.result c.factor_of.ensures c.bits.ensures
          c.requires.before c.requires.whole) c.requires.there c.requires.stored c.requires.bounded
          j x below,
    )

pub returns-clause-bounded : goal.returns-clause-bounded
returns-clause-bounded g c =
    mapped_bounded g.W.WholeNumber.number g.N.Numerator.value c.args.stage (Convert c.args.to c.args.expand)
    (λ m. m * c.factor_of.result % 2 ^ c.bits.result) c.args.before.now c.args.after.now c.args.values.now c.change_front.new.v
    c.args._numbers.now
    (retype_map c.args.stage c.args.to c.args.expand c.factor_of.result c.bits.result c.factor_of.ensures c.bits.ensures c.requires.before
    c.requires.whole) c.requires.there c.change_front.ensures.set c.requires.bounded

pub returns-clause-holds : goal.returns-clause-holds
returns-clause-holds g c =
    mapped_performs g.W.WholeNumber.number g.N.Numerator.value c.args.stage (Convert c.args.to c.args.expand)
    (λ m. m * c.factor_of.result % 2 ^ c.bits.result) c.args.before.now c.args.after.now c.args._position.now c.args.values.now
    c.change_front.new.v c.args._numbers.now
    (retype_map c.args.stage c.args.to c.args.expand c.factor_of.result c.bits.result c.factor_of.ensures c.bits.ensures c.requires.before
    c.requires.whole) c.requires.few c.requires.there c.change_front.ensures.set
