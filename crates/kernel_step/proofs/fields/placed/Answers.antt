use Rattle.std.proofs.Common.{◌≡◌, ◌+◌, ◌-◌, ◌/◌, ◌^◌, ap, ◌∙◌, arith}
use Rattle.kernel_step.proofs.Shifts.{placed_by_shifts}
use Rattle.kernel_step.proofs.fields.placed.Goals as goal

pub returns : goal.returns
returns g c =
    let x = g.W.WholeNumber.number c.args.x in
    let above = c.size.result - c.args.below - c.from.result in
    let bits : g.W.WholeNumber.bits ≡ c.args.width + c.args.below + above =
    omega (arith, c.size.ensures.value, c.from.ensures, c.requires.1) in
    let raised = rw bits at c.shifted_left.ensures in
    c.shifted_right.ensures ∙ ap (λ n. n / 2 ^ above) raised ∙ placed_by_shifts x c.args.below c.args.width above
