use Rattle.op_range.specs.Width.{size_over}
use Rattle.op_range.proofs.Capping.{times_known}
use Rattle.op_range.proofs.width.capped_term.Goals as goal

pub returns : goal.returns
returns c = times_known c.capped_product.result c.size_over.result c.args.size (size_over c.args.e c.args.coefficient.now)
    c.capped_product.ensures c.size_over.ensures
