use Rattle.std.proofs.Common.{◌≡◌, ◌+◌, ◌<◌, ◌^◌, get_or, length, arith, refl}
use Rattle.op_list.proofs.Fields.{packed_below}
use Rattle.op_list.proofs.Four.{sum_four, bits_below_first, bits_below_second, bits_below_third, bits_below_fourth}
use Rattle.op_list.proofs.numbers.packed.Goals as goal

number_below : (c : goal.After-placed-fourth)
    → c.placed-first.result + c.placed-second.result + c.placed-third.result + c.placed-fourth.result < 2 ^ 32
number_below c =
    let ws = c.args.widths.now in
    let size : length ws ≡ 4 = omega arith in
    let all = sum_four ws size in
    packed_below c.placed-first.result c.placed-second.result c.placed-third.result c.placed-fourth.result (get_or ws 0 0) (get_or ws 1 0)
    (get_or ws 2 0) (get_or ws 3 0)
    (c.from-below_third.result + c.from.result + c.from-2.result) (c.from-below_third.result + c.from.result) c.from-below_third.result
    (omega (arith, all)) (omega arith) (omega arith)
    (omega arith) c.placed-first.ensures.small c.placed-second.ensures.small c.placed-third.ensures.small c.placed-fourth.ensures.small

pub overflow_cast-result : goal.overflow_cast-result
overflow_cast-result c = omega (arith, number_below c)

pub overflow_add-result : goal.overflow_add-result
overflow_add-result c = omega (arith, number_below c)

pub overflow_add-result-2 : goal.overflow_add-result-2
overflow_add-result-2 c = omega (arith, number_below c)

pub overflow_add-result-3 : goal.overflow_add-result-3
overflow_add-result-3 c = omega (arith, number_below c)

pub returns : goal.returns
returns c =
    let ws = c.args.widths.now in
    let size : length ws ≡ 4 = omega arith in
    rw (
      bits_below_first ws size,
      bits_below_second ws size,
      bits_below_third ws size,
      bits_below_fourth ws size,
      c.placed-first.ensures.value,
      c.placed-second.ensures.value,
      c.placed-third.ensures.value,
      c.placed-fourth.ensures.value,
      c.from-below_third.ensures,
      c.from.ensures,
      c.from-2.ensures,
    ) refl
