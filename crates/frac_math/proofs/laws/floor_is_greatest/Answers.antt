use Rattle.frac_math.proofs.Floor.{floor_below, le_floor}
use Rattle.frac_math.proofs.laws.floor_is_greatest.Goals as goal

pub returns : goal.returns
returns c = record { below = floor_below; greatest = λ x z. le_floor z x }
