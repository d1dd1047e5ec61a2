use Rattle.slice_claim.proofs.Events.{finish_event}
use Rattle.slice_claim.proofs.laws.finish_is_one_event.Goals as goal

pub returns : goal.returns
returns g c = finish_event g.J.Work.number_of g.J.Work.origin g.J.Work.is_done
