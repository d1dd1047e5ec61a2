use Rattle.op_opt.proofs.PutTogether.{first_fits}
use Rattle.op_opt.proofs.normal_list.+append.Goals as goal

pub put-requires : goal.put-requires
put-requires t c = first_fits c.args.list.now c.args.ops.now c.op-item.result c.in-len1-up.len_at_least c.op-item.is c.requires
