use Rattle.std.proofs.Common.{sym, ◌∙◌, rules}
use Rattle.op_list.proofs.Slices.{first_good, others_typed}
use Rattle.op_range.proofs.Reaching.{empty_reached, none_reached, some_reached, capped_positive, capped_small}
use Rattle.op_range.proofs.width.+reached.Goals as goal

pub returns-in-empty : goal.returns-in-empty
returns-in-empty t c = empty_reached c.args.stage c.args.ops.now c.args.width.now c.in-empty.len_below

pub returns-in-None : goal.returns-in-None
returns-in-None t c =
    none_reached c.args.stage c.args.ops.now c.op-item.result c.args.width.now c.in-len1-up.len_at_least c.op-item.is c.requires.small
    (sym c.width_after.ensures ∙ c.in-None.is)

pub returns-in-Some : goal.returns-in-Some
returns-in-Some t c =
    some_reached c.args.stage c.stage_after-next.result c.args.ops.now c.op-item.result c.args.width.now c.in-Some.after
    c.is_rational.result c.reached-behind.result c.reached_by.result
    c.in-len1-up.len_at_least c.op-item.is c.requires.typed (sym c.width_after.ensures ∙ c.in-Some.is) c.stage_after-next.ensures
    c.is_rational.ensures c.reached-behind.ensures c.reached_by.ensures

pub reached-behind-requires : goal.reached-behind-requires
reached-behind-requires t c =
    let after = sym c.width_after.ensures ∙ c.in-Some.is in (
      search rules,
      (
        others_typed c.args.stage c.stage_after-next.result c.args.ops.now c.op-item.result c.in-len1-up.len_at_least c.op-item.is
            c.requires.typed c.stage_after-next.ensures,
        (
          capped_positive c.args.stage c.op-item.result c.args.width.now c.in-Some.after c.requires.positive after,
          capped_small c.args.stage
              c.op-item.result c.args.width.now c.in-Some.after after,
        ),
      ),
    )

pub width_after-requires-clause-good : goal.width_after-requires-clause-good
width_after-requires-clause-good t c = first_good c.args.stage c.args.ops.now c.op-item.result c.in-len1-up.len_at_least c.op-item.is
    c.requires.typed
