use Rattle.std.proofs.Common.{◌≡◌, ◌+◌, ◌*◌, ◌∙◌, ap, slice_index, arith}
use Rattle.kernel_lane.proofs.Sixteens.{of_parts}
use Rattle.kernel_lane.proofs.pairs.pairs_at.Goals as goal

pub returns-clause-even : goal.returns-clause-even
returns-clause-even c =
    λ j below.
    let same : c.args.at + 2 * j ≡ c.args.at + (2 * j + 0) = omega arith in
    c.split_vectors.ensures.even j below ∙ of_parts c.args.from.now c.args.at (2 * j) c.requires (omega arith)
    ∙ ap (slice_index c.args.from.now) same

pub returns-clause-odd : goal.returns-clause-odd
returns-clause-odd c =
    λ j below.
    c.split_vectors.ensures.odd j below ∙ of_parts c.args.from.now c.args.at (2 * j + 1) c.requires (omega arith)
