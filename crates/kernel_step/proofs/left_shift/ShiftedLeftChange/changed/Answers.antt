use Rattle.std.proofs.Common.{◌≡◌, ◌+◌, ◌/◌, ◌^◌, ◌-◌, ap, ◌∙◌, arith}
use Rattle.kernel_step.proofs.Shifts.{raised_and_lowered}
use Rattle.kernel_step.proofs.left_shift.ShiftedLeftChange.changed.Goals as goal

pub returns : goal.returns
returns g c =
    let x = g.W.WholeNumber.number c.args.x in
    let above = c.size.result - c.args.self.bits in
    let bits : g.W.WholeNumber.bits ≡ c.args.self.bits + above = omega (arith, c.size.ensures.value, c.requires.1) in
    let raised = rw (c.from.ensures, bits) at c.shifted_left.ensures in
    c.shifted_right.ensures ∙ ap (λ n. n / 2 ^ above) raised ∙ raised_and_lowered x c.args.self.n c.args.self.bits above
