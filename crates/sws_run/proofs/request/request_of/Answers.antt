use Rattle.std.proofs.Common.{IfOk, subst, sym}
use Rattle.sws_run.specs.Request.{IsSoundConversion, IsSoundMaking, IsTablePair}
use Rattle.sws_run.proofs.Sound.{sound_conversion, sound_making, sound_pair}
use Rattle.sws_run.proofs.request.request_of.Goals as goal

pub returns-in_ok-conversion_of-in-Convert-clause-sound : goal.returns-in_ok-conversion_of-in-Convert-clause-sound
returns-in_ok-conversion_of-in-Convert-clause-sound c =
    subst (λ r. IfOk r IsSoundConversion) (sym c.in_ok-conversion_of-in-Convert.ensures.value)
    (sound_conversion c.in-Convert.asked (rw c.in-Convert.is at c.requires))

pub returns-in_ok-pair_between-in-Ops-clause-sound : goal.returns-in_ok-pair_between-in-Ops-clause-sound
returns-in_ok-pair_between-in-Ops-clause-sound c =
    subst (λ r. IfOk r IsTablePair) (sym c.in_ok-pair_between-in-Ops.ensures.value)
    (sound_pair c.in-Ops.sides (rw c.in-Ops.is at c.requires))

pub returns-in_ok-making_of-in-Generate-clause-sound : goal.returns-in_ok-making_of-in-Generate-clause-sound
returns-in_ok-making_of-in-Generate-clause-sound c =
    subst (λ r. IfOk r IsSoundMaking) (sym c.in_ok-making_of-in-Generate.ensures.value)
    (sound_making c.in-Generate.asked (rw c.in-Generate.is at c.requires))
