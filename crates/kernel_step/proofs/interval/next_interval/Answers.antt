use Rattle.std.proofs.Common.{◌*ℤ◌}
use Rattle.std.proofs.lemmas.Option.{IfSome_then}
use Rattle.kernel_step.specs.Forms.{width_of}
use Rattle.kernel_step.proofs.Intervals.{ranges_up, ranges_down, next_none, plain, product_known, next_sum, is_none, not_negative, negative}
use Rattle.kernel_step.proofs.interval.next_interval.Goals as goal

pub returns-then-k-eq0-clause-sums : goal.returns-then-k-eq0-clause-sums
returns-then-k-eq0-clause-sums c =
    rw (plain c.args.low c.ranges.low, plain c.args.high c.ranges.high)
    (next_none (width_of c.args.number_width) c.args.low c.args.high c.args.k c.args.least c.args.greatest
    (is_none c.args.k c.ranges.k c.if-k-eq0.true) c.requires.low c.requires.high)

pub returns-then-k-ge0-clause-sums : goal.returns-then-k-ge0-clause-sums
returns-then-k-ge0-clause-sums c =
    let made = rw (
      plain c.args.low c.ranges.low,
      plain c.args.high c.ranges.high,
      product_known c.args.k c.args.least c.in_ok-first.first c.ranges.k c.ranges.least c.in_ok-first.ensures,
      product_known c.args.k c.args.greatest c.in_ok-second.second c.ranges.k c.ranges.greatest c.in_ok-second.ensures,
    ) at c.added.ensures in
    IfSome_then c.added.result made
    (λ r added. next_sum (width_of c.args.number_width) c.args.low c.args.high c.args.k c.args.least c.args.greatest
    (c.args.k *ℤ c.args.least)
    (c.args.k *ℤ c.args.greatest) r.0 r.1
    (ranges_up c.args.k c.args.least c.args.greatest (not_negative c.args.k c.ranges.k c.if-k-ge0.true)) added)

pub returns-then-k-ge0-clause-low : goal.returns-then-k-ge0-clause-low
returns-then-k-ge0-clause-low c = IfSome_then c.added.result c.added.ensures (λ r added. added.low_fits)

pub returns-then-k-ge0-clause-high : goal.returns-then-k-ge0-clause-high
returns-then-k-ge0-clause-high c = IfSome_then c.added.result c.added.ensures (λ r added. added.high_fits)

pub returns-else-k-ge0-clause-sums : goal.returns-else-k-ge0-clause-sums
returns-else-k-ge0-clause-sums c =
    let made = rw (
      plain c.args.low c.ranges.low,
      plain c.args.high c.ranges.high,
      product_known c.args.k c.args.least c.in_ok-first.first c.ranges.k c.ranges.least c.in_ok-first.ensures,
      product_known c.args.k c.args.greatest c.in_ok-second.second c.ranges.k c.ranges.greatest c.in_ok-second.ensures,
    ) at c.added-else-k-ge0.ensures in
    IfSome_then c.added-else-k-ge0.result made
    (λ r added. next_sum (width_of c.args.number_width) c.args.low c.args.high c.args.k c.args.least c.args.greatest
    (c.args.k *ℤ c.args.greatest)
    (c.args.k *ℤ c.args.least) r.0 r.1
    (ranges_down c.args.k c.args.least c.args.greatest (negative c.args.k c.ranges.k c.if-k-ge0.false)) added)

pub returns-else-k-ge0-clause-low : goal.returns-else-k-ge0-clause-low
returns-else-k-ge0-clause-low c = IfSome_then c.added-else-k-ge0.result c.added-else-k-ge0.ensures (λ r added. added.low_fits)

pub returns-else-k-ge0-clause-high : goal.returns-else-k-ge0-clause-high
returns-else-k-ge0-clause-high c = IfSome_then c.added-else-k-ge0.result c.added-else-k-ge0.ensures (λ r added. added.high_fits)
