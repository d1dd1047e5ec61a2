use Rattle.std.proofs.Common.{◌≡◌, ◌<◌, List, refl, sym, ◌∙◌, ap, subst, rules}
use Rattle.std.specs.Prelude.{Some, IfOk}
use Rattle.std.specs.Option.{option_map}
use Rattle.op_list.specs.declared.op.Op.{Op}
use Rattle.op_opt.specs.Edits.{edited}
use Rattle.op_opt.specs.Weight.{weight}
use Rattle.op_opt.specs.Normal.{step}
use Rattle.op_opt.proofs.Normals.{next_of_code, next_lighter, next_whole, next_sound, normal_of_next, normal_at_end, normal_here}
use Rattle.op_opt.proofs.Normals.{normals_behind}
use Rattle.op_opt.proofs.normal_list.+settled.Goals as goal

pub edited-requires-clause-sound : goal.edited-requires-clause-sound
edited-requires-clause-sound t c =
    let again = c.ops-in-Some.result.now in
    let edit = c.in-Some.edit in
    let is : step c.args.list ≡ Some (edited again edit) =
    next_of_code c.args.list c.ops.result.now again (edited again edit) edit c.ops.ensures.same c.ops-in-Some.ensures.same
    (c.in_ok-next_edit.ensures.value ∙ ap (option_map (λ e. edited c.ops.result.now e)) c.in-Some.is) refl in
    next_sound c.args.list (edited again edit) is c.ops.ensures.sound c.requires

pub settled-requires : goal.settled-requires
settled-requires t c =
    let next = c.in_ok-next-in-Some.next in
    let is : step c.args.list ≡ Some next =
    next_of_code c.args.list c.ops.result.now c.ops-in-Some.result.now next c.in-Some.edit c.ops.ensures.same c.ops-in-Some.ensures.same
    (c.in_ok-next_edit.ensures.value ∙ ap (option_map (λ e. edited c.ops.result.now e)) c.in-Some.is) c.in_ok-next-in-Some.ensures in
    let less : weight next < weight c.args.list = next_lighter c.args.list next is in
    (search rules, next_whole c.args.list next is c.requires)

pub returns-in-None-clause-value : goal.returns-in-None-clause-value
returns-in-None-clause-value t c = normal_at_end c.args.list (ap step (sym c.ops.ensures.same) ∙ c.in_ok-next_edit.ensures.value
    ∙ ap (option_map (λ e. edited c.ops.result.now e)) c.in-None.is)

pub returns-in-None-clause-keeps : goal.returns-in-None-clause-keeps
returns-in-None-clause-keeps t c =
    normal_here c.args.list (ap step (sym c.ops.ensures.same) ∙ c.in_ok-next_edit.ensures.value
    ∙ ap (option_map (λ e. edited c.ops.result.now e)) c.in-None.is) c.ops.ensures.sound c.requires

pub returns-in_ok-next-in-Some-clause-value : goal.returns-in_ok-next-in-Some-clause-value
returns-in_ok-next-in-Some-clause-value t c =
    let next = c.in_ok-next-in-Some.next in
    let is : step c.args.list ≡ Some next =
    next_of_code c.args.list c.ops.result.now c.ops-in-Some.result.now next c.in-Some.edit c.ops.ensures.same c.ops-in-Some.ensures.same
    (c.in_ok-next_edit.ensures.value ∙ ap (option_map (λ e. edited c.ops.result.now e)) c.in-Some.is) c.in_ok-next-in-Some.ensures in
    subst (λ (l : List Op). IfOk c.settled.result (λ after. after ≡ l)) (normal_of_next c.args.list next is) c.settled.ensures.value

pub returns-in_ok-next-in-Some-clause-keeps : goal.returns-in_ok-next-in-Some-clause-keeps
returns-in_ok-next-in-Some-clause-keeps t c =
    let next = c.in_ok-next-in-Some.next in
    let is : step c.args.list ≡ Some next =
    next_of_code c.args.list c.ops.result.now c.ops-in-Some.result.now next c.in-Some.edit c.ops.ensures.same c.ops-in-Some.ensures.same
    (c.in_ok-next_edit.ensures.value ∙ ap (option_map (λ e. edited c.ops.result.now e)) c.in-Some.is) c.in_ok-next-in-Some.ensures in
    normals_behind c.args.list next c.settled.result is c.ops.ensures.sound c.requires c.settled.ensures.keeps
