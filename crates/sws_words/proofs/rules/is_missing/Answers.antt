use Rattle.std.proofs.Common.{◌∙◌, sym, arith}
use Rattle.sws_words.specs.Given.{given_in}
use Rattle.sws_words.specs.Rules.{is_missing, lacks}
use Rattle.sws_words.proofs.OptionRows.{any_behind, any_ended, any_here}
use Rattle.sws_words.proofs.rules.is_missing.Goals as goal

pub returns-then-lacks : goal.returns-then-lacks
unfolding is_missing
returns-then-lacks c =
    let rows = c.options-option-items.result.now in
    let here = any_here (lacks (given_in c.args.given.now) c.args.task) rows c.loop-option.option-index _ c.lacks.result
    (omega arith) c.lacks.ensures c.if-lacks.true in
    sym here ∙ c.loop-option.invariant

pub loop-option-preserved : goal.loop-option-preserved
loop-option-preserved c =
    let rows = c.options-option-items.result.now in
    let behind = any_behind (lacks (given_in c.args.given.now) c.args.task) rows c.loop-option.option-index _ c.lacks.result
    (omega arith) c.lacks.ensures c.if-lacks.false in
    sym behind ∙ c.loop-option.invariant

pub returns : goal.returns
unfolding is_missing
returns c =
    let rows = c.options-option-items.result.now in
    let ended = any_ended (lacks (given_in c.args.given.now) c.args.task) rows c.loop-option.option-index (omega arith) in
    sym ended ∙ c.loop-option.invariant
