use Rattle.std.proofs.Common.{◌≡◌, ◌∙◌, sym}
use Rattle.std.specs.Prelude.{Some}
use Rattle.op_list.specs.Values.{four, number}
use Rattle.op_list.specs.Run.{checked_run}
use Rattle.op_list.proofs.Exact.{checked_run-exact}
use Rattle.op_list.proofs.Steps.{whole_numbers, checked_run-some, checked_run-none}
use Rattle.op_list.proofs.list.OpList.run_pixel.Goals as goal

pub returns-in_err-values-clause-checked : goal.returns-in_err-values-clause-checked
returns-in_err-values-clause-checked c =
    let is = sym c.values_after.ensures ∙ c.in_err-values.was in
    rw c.from_residual.ensures
    (sym (checked_run-none c.args.self.now c.args.frame.now c.args.width c.args.rows c.args.x c.args.row c.args.y
    (rw c.ops.ensures.same at is)))

pub elements-requires : goal.elements-requires
elements-requires c =
    let is = sym c.values_after.ensures ∙ c.in_ok-values.was in
    whole_numbers c.args.self.now c.args.frame.now _ c.in_ok-values.values c.ops.ensures.sound c.requires.whole
    c.requires.column c.requires.row c.requires.frame (rw c.ops.ensures.same at is)

answer : (c : goal.After-elements) → checked_run c.args.self.now c.args.frame.now c.args.width c.args.rows c.args.x c.args.row c.args.y
    ≡ Some (four (λ i. number c.in_ok-values.values i))
answer c =
    let is = sym c.values_after.ensures ∙ c.in_ok-values.was in
    checked_run-some c.args.self.now c.args.frame.now c.args.width c.args.rows c.args.x c.args.row c.args.y c.in_ok-values.values
    (rw c.ops.ensures.same at is)

pub returns-clause-checked : goal.returns-clause-checked
returns-clause-checked c = rw c.elements.ensures (sym (answer c))

pub returns-clause-exact : goal.returns-clause-exact
returns-clause-exact c =
    rw c.elements.ensures
    (sym (checked_run-exact c.args.self.now c.args.frame.now c.args.width c.args.rows c.args.x c.args.row c.args.y
    (four (λ i. number c.in_ok-values.values i)) (answer c)))
