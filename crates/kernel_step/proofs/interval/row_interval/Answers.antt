use Rattle.std.proofs.lemmas.Option.{IfSome_then}
use Rattle.kernel_step.specs.Forms.{width_of}
use Rattle.kernel_step.proofs.Intervals.{row_range, number_width_plain}
use Rattle.kernel_step.proofs.interval.row_interval.Goals as goal

pub returns-clause-range : goal.returns-clause-range
returns-clause-range c =
    let number_width = c.args.number_width in
    let constant = c.in_ok-constant.constant in
    let first = c.in_ok-first.first in
    let second = c.in_ok-second.second in
    let third = c.in_ok-third.third in
    let s0 = rw (number_width_plain number_width constant c.in_ok-constant.ensures.fits) at c.in_ok-first.ensures.sums in
    let s1 = rw (
      number_width_plain number_width first.0 c.in_ok-first.ensures.low,
      number_width_plain number_width first.1 c.in_ok-first.ensures.high,
    ) at
    c.in_ok-second.ensures.sums in
    let s2 = rw (
      number_width_plain number_width second.0 c.in_ok-second.ensures.low,
      number_width_plain number_width second.1 c.in_ok-second.ensures.high,
    ) at
    c.in_ok-third.ensures.sums in
    let s3 = rw (
      number_width_plain number_width third.0 c.in_ok-third.ensures.low,
      number_width_plain number_width third.1 c.in_ok-third.ensures.high,
    ) at
    c.next_of-4.ensures.sums in
    IfSome_then c.next_of-4.result s3
    (λ r sums. row_range (width_of number_width) c.args.before.now c.args.factors.now constant first.0 first.1 second.0 second.1
    third.0 third.1 r.0
    r.1
    c.in_ok-constant.ensures.value c.in_ok-constant.ensures.fits s0 s1 s2 sums)
