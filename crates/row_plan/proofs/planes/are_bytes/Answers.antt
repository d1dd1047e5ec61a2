use Rattle.row_plan.proofs.ConvertedRows.{are_bytes}
use Rattle.row_plan.proofs.planes.are_bytes.Goals as goal

pub returns : goal.returns
returns c = are_bytes c.args.bytes.now (λ k. (c.type_inv.bytes k).fits)
