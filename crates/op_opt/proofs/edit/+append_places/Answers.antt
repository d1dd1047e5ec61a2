use Rattle.std.proofs.Common.{rules}
use Rattle.op_list.proofs.Slices.{first_follows, first_good, others_typed}
use Rattle.op_opt.proofs.edit.+append_places.Goals as goal

pub ranges_after-after-requires-clause-follows : goal.ranges_after-after-requires-clause-follows
ranges_after-after-requires-clause-follows t c =
    first_follows c.args.stage c.args.ops.now c.op-item.result c.in-len1-up.len_at_least c.op-item.is c.requires

pub ranges_after-after-requires-clause-good : goal.ranges_after-after-requires-clause-good
ranges_after-after-requires-clause-good t c =
    first_good c.args.stage c.args.ops.now c.op-item.result c.in-len1-up.len_at_least c.op-item.is c.requires

pub ranges_after-ranges-requires-clause-follows : goal.ranges_after-ranges-requires-clause-follows
ranges_after-ranges-requires-clause-follows t c =
    first_follows c.args.stage c.args.ops.now c.op-item.result c.in-len1-up.len_at_least c.op-item.is c.requires

pub ranges_after-ranges-requires-clause-good : goal.ranges_after-ranges-requires-clause-good
ranges_after-ranges-requires-clause-good t c =
    first_good c.args.stage c.args.ops.now c.op-item.result c.in-len1-up.len_at_least c.op-item.is c.requires

pub append_places-requires : goal.append_places-requires
append_places-requires t c = (
  search rules,
  others_typed c.args.stage c.stage_after.result c.args.ops.now c.op-item.result c.in-len1-up.len_at_least c.op-item.is
      c.requires c.stage_after.ensures,
)
