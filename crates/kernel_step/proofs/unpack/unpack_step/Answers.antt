use Rattle.std.proofs.Common.{◌/◌, ◌%◌, ◌^◌, ap, ◌∙◌, arith, slice_index}
use Rattle.op_list.specs.Whole.{bits_below}
use Rattle.kernel_step.proofs.FieldSteps.{Unpacks, copied_first, unpack_bounded, unpack_performs, unpack_room}
use Rattle.kernel_step.proofs.unpack.unpack_step.Goals as goal

pub unpack_field-requires-clause-room : goal.unpack_field-requires-clause-room
unpack_field-requires-clause-room g c =
    rw c.bits_below.ensures
    (unpack_room c.args.stage c.args.widths.now c.loop-v.v g.W.WholeNumber.bits (omega arith) (omega arith)
    c.requires.good c.requires.stored)

pub returns-clause-bounded : goal.returns-clause-bounded
returns-clause-bounded g c =
    let unpacks : Unpacks g.W.WholeNumber.number c.args.widths.now c.args.after.now.count c.args.values.now c.loop-v.values =
    λ v i d below within.
    c.loop-v.invariant v i d (omega arith) within
    ∙ ap (λ x. g.W.WholeNumber.number x / 2 ^ bits_below c.args.widths.now v % 2 ^ slice_index c.args.widths.now v)
    (copied_first c.args.values.now c.copy_value.new.to c.copy_value.ensures.set i d within) in
    unpack_bounded g.W.WholeNumber.number g.N.Numerator.value c.args.stage c.args.widths.now c.args.before.now c.args.after.now
    c.args.values.now c.loop-v.values c.args._numbers.now
    c.requires.follows c.requires.good (omega arith) c.requires.few unpacks

pub returns-clause-holds : goal.returns-clause-holds
returns-clause-holds g c =
    let unpacks : Unpacks g.W.WholeNumber.number c.args.widths.now c.args.after.now.count c.args.values.now c.loop-v.values =
    λ v i d below within.
    c.loop-v.invariant v i d (omega arith) within
    ∙ ap (λ x. g.W.WholeNumber.number x / 2 ^ bits_below c.args.widths.now v % 2 ^ slice_index c.args.widths.now v)
    (copied_first c.args.values.now c.copy_value.new.to c.copy_value.ensures.set i d within) in
    unpack_performs g.W.WholeNumber.number g.N.Numerator.value c.args.stage c.args.widths.now c.args.before.now c.args.after.now
    c.args._position.now c.args.values.now c.loop-v.values c.args._numbers.now
    c.requires.follows c.requires.good c.requires.few c.requires.step unpacks
