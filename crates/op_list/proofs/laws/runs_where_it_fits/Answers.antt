use Rattle.op_list.proofs.Fitting.{checked_run_from-some}
use Rattle.op_list.proofs.laws.runs_where_it_fits.Goals as goal

pub returns : goal.returns
returns c = checked_run_from-some
