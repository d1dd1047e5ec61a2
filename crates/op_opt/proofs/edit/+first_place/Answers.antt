use Rattle.std.proofs.Common.{rules}
use Rattle.op_opt.proofs.AlongPlaces.{first_and_others, others_along}
use Rattle.op_opt.proofs.edit.+first_place.Goals as goal

pub next_ranges-next-requires : goal.next_ranges-next-requires
next_ranges-next-requires t c =
    first_and_others c.args.stage c.args.here.now c.args.ops.now c.op-item.result c.args.after.now c.in-len1-up.len_at_least c.op-item.is
    c.requires

pub first_place-requires : goal.first_place-requires
first_place-requires t c = (
  search rules,
  others_along c.args.stage c.stage_after.result c.args.here.now c.next_ranges-next.result.now c.args.ops.now c.op-item.result
      c.args.after.now c.others.result.now
      c.in-len1-up.len_at_least c.op-item.is c.requires c.others.ensures c.stage_after.ensures c.next_ranges-next.ensures,
)
