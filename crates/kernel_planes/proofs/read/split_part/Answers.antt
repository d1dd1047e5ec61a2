use Rattle.std.proofs.Common.{rules, ◌≡◌, ◌+◌, ◌-◌, ◌*◌, ◌∙◌, ap, length, arith}
use Rattle.kernel_planes.proofs.Parts.{part_is, pixel_below, put_back}
use Rattle.kernel_planes.proofs.read.split_part.Goals as goal

pub returns-clause-set : goal.returns-clause-set
returns-clause-set g c =
    λ yes v i d few below.
    let before = c.args.before in
    let number = g.W.WholeNumber.number in
    let values = c.args.values.now in
    let size : length c.split.new.values ≡ 64 * c.args.count = search rules in
    let there : 64 * (before + v) + i ≡ 64 * before + (64 * v + i) = omega arith in
    ap number (put_back (64 * before) (64 * before + 64 * c.args.count - 64 * before) values c.split.new.values (64 * (before + v) + i)
    (64 * v + i) d (omega arith) (omega (arith, size, few, below)) there)
    ∙ c.split.ensures.set yes v i d few below
    ∙ part_is c.args.start _ c.args.from.now (c.args.count * i + v) 0 (omega (arith, pixel_below c.args.count i v few below))
