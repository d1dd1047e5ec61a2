use Rattle.frac_math.proofs.FractionRing.{equal_is, is_equal}
use Rattle.frac_math.proofs.FractionOrder.{order_is}
use Rattle.frac_math.proofs.laws.compared_exactly.Goals as goal

pub returns : goal.returns
returns c = record { equal = λ x y. (equal_is x y, is_equal x y); order = order_is }
