use Rattle.std.proofs.Common.{sym, ◌∙◌, arith}
use Rattle.op_range.specs.Width.{width_after}
use Rattle.op_range.proofs.Widths.{after_positive}
use Rattle.op_range.proofs.Reaching.{is_capped}
use Rattle.kernel_joint.proofs.joint_width.next_width.Goals as goal

pub is_small-requires : goal.is_small-requires
is_small-requires c =
    let w = width_after c.args.stage c.args.op.now c.args.width.now in
    omega (
      arith,
      after_positive c.args.stage c.args.op.now c.args.width.now c.requires.positive,
      (is_capped w c.in_ok-after.after (sym c.width_after.ensures ∙ c.in_ok-after.was)).same.denominator,
    )
