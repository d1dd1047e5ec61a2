use Rattle.slice_claim.proofs.Events.{work_event}
use Rattle.slice_claim.proofs.laws.work_is_one_event.Goals as goal

pub returns : goal.returns
returns g c = work_event g.J.Work.number_of g.J.Work.origin g.J.Work.is_done
