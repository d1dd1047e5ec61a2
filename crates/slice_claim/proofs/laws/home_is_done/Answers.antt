use Rattle.slice_claim.proofs.Events.{home_done}
use Rattle.slice_claim.proofs.laws.home_is_done.Goals as goal

pub returns : goal.returns
returns g c = home_done g.J.Work.number_of g.J.Work.origin g.J.Work.is_done
