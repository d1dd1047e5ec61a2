use Rattle.kernel_step.specs.Forms.{width_of}
use Rattle.kernel_step.proofs.Intervals.{added_known}
use Rattle.kernel_step.proofs.interval.added.Goals as goal

pub returns : goal.returns
returns c =
    added_known (width_of c.args.number_width) c.args.low c.args.high c.args.p c.args.q c.in_ok-lower.lower c.in_ok-higher.higher
    c.ranges.low
    c.ranges.high c.ranges.p c.ranges.q
    c.in_ok-lower.ensures c.in_ok-higher.ensures (c.fits.ensures c.if-not-fits.false) (c.fits-2.ensures c.if-not-fits-2.false)
    (c.fits-3.ensures c.if-not-fits-3.false) (c.fits-4.ensures c.if-not-fits-4.false)
