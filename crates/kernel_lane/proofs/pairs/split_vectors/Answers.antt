use Rattle.std.proofs.Common.{◌+◌, ◌*◌, ◌++◌, get_or, arith}
use Rattle.std.proofs.lemmas.List.FromFn.{get_or-map-range_with_len}
use Rattle.kernel_lane.proofs.pairs.split_vectors.Goals as goal

pub returns-clause-even : goal.returns-clause-even
returns-clause-even c =
    λ j below. get_or-map-range_with_len (λ t. get_or (c.args.x ++ c.args.y) (2 * t) 0) 0 16 j j 0 below (omega arith)

pub returns-clause-odd : goal.returns-clause-odd
returns-clause-odd c =
    λ j below. get_or-map-range_with_len (λ t. get_or (c.args.x ++ c.args.y) (2 * t + 1) 0) 0 16 j j 0 below (omega arith)
