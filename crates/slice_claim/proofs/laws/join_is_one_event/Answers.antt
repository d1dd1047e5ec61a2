use Rattle.slice_claim.proofs.Events.{join_event}
use Rattle.slice_claim.proofs.laws.join_is_one_event.Goals as goal

pub returns : goal.returns
returns g c = join_event g.J.Work.number_of g.J.Work.origin g.J.Work.is_done
