use Rattle.std.proofs.Common.{rules, ◌≡◌, true}
use Rattle.kernel_step.specs.ValueSteps.{is_by_value}
use Rattle.kernel_joint.proofs.JointSteps.{swap_bytes_step, unpack_step, pack_step, left_shift_step, right_shift_step, clear_step}
use Rattle.kernel_joint.proofs.JointSteps.{clear_entries, swizzle_from, swizzle_step, no_read, divisors_fit, widened_small, convert_step}
use Rattle.kernel_joint.proofs.JointOps.{rows_fit, rows_step, made_fit, made_step}
use Rattle.kernel_joint.proofs.joint_step.stepped.Goals as goal

pub unreachable-requires : goal.unreachable-requires
unreachable-requires c =
    no_read c.args.stage c.in-Read.elem c.in-Read.planes c.in-Read.palette c.requires.typed
    (rw c.in-Read.is at c.requires.given).follows

pub joint_moved_form-requires-clause-from : goal.joint_moved_form-requires-clause-from
joint_moved_form-requires-clause-from c =
    swizzle_from c.args.number_width c.in-Swizzle.from c.args.stage c.args.before.now c.args.width.now c.args.next.now
    (rw c.in-Swizzle.is at c.requires.given)

pub returns-in-SwapBytes : goal.returns-in-SwapBytes
returns-in-SwapBytes c =
    λ bits stored. rw c.in-SwapBytes.is
    (swap_bytes_step c.args.number_width bits c.args.stage c.args.before.now c.joint_kept_form.result c.args.width.now
    c.args.next.now (rw c.in-SwapBytes.is at c.requires.given) c.joint_kept_form.ensures.count)

pub returns-in-Unpack : goal.returns-in-Unpack
returns-in-Unpack c =
    λ bits stored. rw c.in-Unpack.is
    (unpack_step c.args.number_width bits c.in-Unpack.widths c.args.stage c.args.before.now c.joint_kept_form-in-Unpack.result
    c.args.width.now
    c.args.next.now (rw c.in-Unpack.is at c.requires.given) c.joint_kept_form-in-Unpack.ensures.count)

pub returns-in-Pack : goal.returns-in-Pack
returns-in-Pack c =
    λ bits stored. rw c.in-Pack.is
    (pack_step c.args.number_width bits c.in-Pack.widths c.args.stage c.args.before.now c.joint_kept_form-in-Pack.result c.args.width.now
    c.args.next.now (rw c.in-Pack.is at c.requires.given) c.joint_kept_form-in-Pack.ensures.count)

pub cleared-requires-clause-small : goal.cleared-requires-clause-small
cleared-requires-clause-small c =
    λ kind. clear_entries c.args.number_width c.in-Clear.values c.args.stage c.args.before.now c.args.width.now
    c.args.next.now (rw c.in-Clear.is at c.requires.given) kind

pub returns-in-Clear : goal.returns-in-Clear
returns-in-Clear c =
    λ bits stored. rw c.in-Clear.is
    (clear_step c.args.number_width bits c.in-Clear.values c.args.stage c.args.before.now c.cleared.result c.args.width.now
    c.args.next.now (rw c.in-Clear.is at c.requires.given) c.cleared.ensures.count c.cleared.ensures.cleared)

pub returns-in-LeftShift : goal.returns-in-LeftShift
returns-in-LeftShift c =
    λ bits stored. rw c.in-LeftShift.is
    (left_shift_step c.args.number_width bits c.in-LeftShift.n c.args.stage c.args.before.now c.joint_kept_form-in-LeftShift.result
    c.args.width.now
    c.args.next.now (rw c.in-LeftShift.is at c.requires.given) c.joint_kept_form-in-LeftShift.ensures.count)

pub returns-in-RightShift : goal.returns-in-RightShift
returns-in-RightShift c =
    λ bits stored. rw c.in-RightShift.is
    (right_shift_step c.args.number_width bits c.in-RightShift.n c.args.stage c.args.before.now c.joint_kept_form-in-RightShift.result
    c.args.width.now
    c.args.next.now (rw c.in-RightShift.is at c.requires.given) c.joint_kept_form-in-RightShift.ensures.count)

pub returns-in-Swizzle : goal.returns-in-Swizzle
returns-in-Swizzle c =
    λ bits stored. rw c.in-Swizzle.is
    (swizzle_step c.args.number_width bits c.in-Swizzle.from c.args.stage c.args.before.now c.joint_moved_form.result c.args.width.now
    c.args.next.now (rw c.in-Swizzle.is at c.requires.given) c.joint_moved_form.ensures.count c.joint_moved_form.ensures.moved)

pub converted-requires-clause-divisors : goal.converted-requires-clause-divisors
converted-requires-clause-divisors c =
    divisors_fit c.args.number_width c.in-Convert.to c.in-Convert.expand c.args.stage c.args.before.now c.args.width.now
    c.args.next.now (rw c.in-Convert.is at c.requires.given)

pub converted-requires-clause-room : goal.converted-requires-clause-room
converted-requires-clause-room c = λ kind to. widened_small c.args.number_width c.in-Convert.to c.in-Convert.expand c.args.stage
    c.args.before.now c.args.width.now c.args.next.now (rw c.in-Convert.is at c.requires.given) kind

pub returns-in-Convert : goal.returns-in-Convert
returns-in-Convert c =
    λ bits. rw c.in-Convert.is
    (convert_step c.args.number_width bits c.in-Convert.to c.in-Convert.expand c.args.stage c.args.before.now c.converted.result
    c.args.width.now
    c.args.next.now (rw c.in-Convert.is at c.requires.given)
    (record {
      count = c.converted.ensures.count;
      kept = c.converted.ensures.kept;
      narrowed = c.converted.ensures.narrowed;
      widened = c.converted.ensures.widened;
    }))

pub joint_rows_form-requires : goal.joint_rows_form-requires
joint_rows_form-requires c = rows_fit c.args.number_width c.in-Linear.rows c.args.stage c.args.before.now c.args.width.now c.args.next.now
    c.growth.result (rw c.in-Linear.is at c.requires.given) c.growth.ensures

pub returns-in-Linear : goal.returns-in-Linear
returns-in-Linear c =
    λ bits stored. rw c.in-Linear.is
    (rows_step c.args.number_width bits c.in-Linear.rows c.args.stage c.args.before.now c.joint_rows_form.result c.args.width.now
    c.args.next.now
    c.growth.result (rw c.in-Linear.is at c.requires.given) c.growth.ensures c.joint_rows_form.ensures.count c.joint_rows_form.ensures.rows)

pub joint_made_form-requires : goal.joint_made_form-requires
joint_made_form-requires c =
    let kind : is_by_value c.args.op.now ≡ true = search rules in
    made_fit c.args.number_width c.args.op.now c.args.stage c.args.before.now c.args.width.now c.args.next.now c.growth-in-Dither.result
    kind c.requires.given
    c.growth-in-Dither.ensures

pub returns-in-Dither : goal.returns-in-Dither
returns-in-Dither c =
    let kind : is_by_value c.args.op.now ≡ true = search rules in
    λ bits stored. made_step c.args.number_width bits c.args.op.now c.args.stage c.args.before.now c.joint_made_form.result c.args.width.now
    c.args.next.now c.growth-in-Dither.result kind c.requires.given c.growth-in-Dither.ensures c.joint_made_form.ensures.count
    c.joint_made_form.ensures.made
