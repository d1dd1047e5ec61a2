use Rattle.std.proofs.Common.{◌≡◌, sym, subst, rules}
use Rattle.op_range.specs.States.{states_of, Encloses}
use Rattle.op_range.proofs.States.{states_enclose}
use Rattle.op_range.proofs.state.ranges.Goals as goal

pub returns-clause-encloses : goal.returns-clause-encloses
returns-clause-encloses c =
    let e : c.append_states.new.states.items ≡ states_of c.args.list.now = search rules in
    subst (λ states. Encloses states c.args.list.now) (sym e)
    (states_enclose c.args.list.now c.ops.ensures.sound.typed c.requires.whole)
