use Rattle.std.proofs.Common.{◌≡◌, ◌*◌, ◌/◌, ◌^◌, ◌-◌, ◌∙◌, ap}
use Rattle.frac_math.proofs.DitherLaws.{index_number}
use Rattle.kernel_step.proofs.DitherSteps.{index_part, number_small, number_stands}
use Rattle.kernel_step.proofs.dither.dither_number.Goals as goal

pub returns-clause-stands : goal.returns-clause-stands
returns-clause-stands c =
    let n = c.index_of_sixteen.result in
    let is : n / 2 ^ (8 - 2 * c.from.result) ≡ index_number c.args.k c.args.x c.args.y =
    ap (λ k. n / 2 ^ (8 - 2 * k)) c.from.ensures ∙ index_part c.args.k n c.args.x c.args.y c.requires c.index_of_sixteen.ensures.value in
    number_stands c.args.k (n / 2 ^ (8 - 2 * c.from.result)) c.args.x c.args.y is

pub returns-clause-small : goal.returns-clause-small
returns-clause-small c =
    let n = c.index_of_sixteen.result in
    let is : n / 2 ^ (8 - 2 * c.from.result) ≡ index_number c.args.k c.args.x c.args.y =
    ap (λ k. n / 2 ^ (8 - 2 * k)) c.from.ensures ∙ index_part c.args.k n c.args.x c.args.y c.requires c.index_of_sixteen.ensures.value in
    number_small c.args.k (n / 2 ^ (8 - 2 * c.from.result)) c.args.x c.args.y is
