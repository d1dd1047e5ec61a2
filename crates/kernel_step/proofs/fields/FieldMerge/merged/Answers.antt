use Rattle.std.proofs.Common.{◌≡◌, ◌+◌, ◌-◌, ◌/◌, ◌^◌, ap, ◌∙◌, arith}
use Rattle.kernel_step.proofs.Shifts.{field_by_shifts}
use Rattle.kernel_step.proofs.fields.FieldMerge.merged.Goals as goal

pub returns : goal.returns
returns g c =
    let x = g.W.WholeNumber.number c.args.from in
    let below = c.args.self.below in
    let width = c.args.self.width in
    let above = c.size.result - below - c.from.result in
    let bits : g.W.WholeNumber.bits ≡ width + below + above = omega (arith, c.size.ensures.value, c.from.ensures, c.requires.1) in
    let raised = rw bits at c.shifted_left.ensures in
    c.shifted_right.ensures ∙ ap (λ n. n / 2 ^ (above + below)) raised ∙ field_by_shifts x below width above
