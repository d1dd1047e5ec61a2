use Rattle.op_list.proofs.Fitting.{checked_apply-some}
use Rattle.op_list.proofs.laws.applies_where_it_fits.Goals as goal

pub returns : goal.returns
returns c = checked_apply-some
