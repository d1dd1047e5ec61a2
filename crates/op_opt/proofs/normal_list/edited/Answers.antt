use Rattle.std.proofs.Common.{List, ◌++◌, take, drop, subst, sym, ◌∙◌, ap}
use Rattle.op_list.specs.declared.op.Op.{Op}
use Rattle.op_list.specs.Typing.{IsOpList}
use Rattle.op_list.proofs.Typed.{front_is_list}
use Rattle.op_opt.specs.Changes.{changed}
use Rattle.op_opt.proofs.PutTogether.{given_fits}
use Rattle.op_opt.proofs.normal_list.edited.Goals as goal

pub append-requires : goal.append-requires
append-requires c =
    let edit = c.args.edit.now in
    let front = take edit.at c.args.ops.now in
    subst (λ (l : List Op). IsOpList (l ++ front)) (sym c.new-list.ensures) (front_is_list front (changed
    (drop edit.at c.args.ops.now) edit.change) c.requires.sound)

pub put-requires : goal.put-requires
put-requires c =
    let edit = c.args.edit.now in
    let front = take edit.at c.args.ops.now in
    given_fits c.append.new.list front edit.change.given (drop edit.change.taken (drop edit.at c.args.ops.now)) c.in-Some.op
    (c.in_ok-append.ensures ∙ ap (λ l. l ++ front) c.new-list.ensures) c.in-Some.is c.requires.sound
