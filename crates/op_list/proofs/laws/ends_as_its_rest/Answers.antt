use Rattle.op_list.proofs.Wholes.{ends_with_write-append}
use Rattle.op_list.proofs.laws.ends_as_its_rest.Goals as goal

pub returns : goal.returns
returns c = ends_with_write-append
