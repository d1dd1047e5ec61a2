use Rattle.std.proofs.Common.{◌≡◌, ◌++◌, OnOk, refl, subst}
use Rattle.op_build.specs.Recipe.{recipe}
use Rattle.op_build.specs.Steps.{operations}
use Rattle.op_build.proofs.recipe.Typed.{are_lists}
use Rattle.op_build.proofs.list.append_recipe.Goals as goal

pub append_steps-requires : goal.append_steps-requires
append_steps-requires c = rw (c.requires.empty, c.decode.ensures) (are_lists c.args.pair.now c.requires.valid).first

pub append_steps-requires-2 : goal.append_steps-requires-2
append_steps-requires-2 c =
    rw (c.in_ok-append_steps.ensures.ok, c.requires.empty, c.decode.ensures, c.convert.ensures)
    (are_lists c.args.pair.now c.requires.valid).second

pub append_steps-requires-3 : goal.append_steps-requires-3
append_steps-requires-3 c =
    rw (
      c.in_ok-append_steps-2.ensures.ok,
      c.in_ok-append_steps.ensures.ok,
      c.requires.empty,
      c.decode.ensures,
      c.convert.ensures,
      c.encode.ensures,
    )
    (are_lists c.args.pair.now c.requires.valid).whole

pub returns-clause-ok : goal.returns-clause-ok
unfolding recipe
returns-clause-ok c =
    let whole : c.append_steps-2.new.list ++ operations c.encode.result ≡ recipe c.args.pair.now =
    rw (
      c.in_ok-append_steps-2.ensures.ok,
      c.in_ok-append_steps.ensures.ok,
      c.requires.empty,
      c.decode.ensures,
      c.convert.ensures,
      c.encode.ensures,
    ) refl in
    subst (λ ops. OnOk c.append_steps-3.result (c.append_steps-3.new.list ≡ ops)) whole c.append_steps-3.ensures.ok
