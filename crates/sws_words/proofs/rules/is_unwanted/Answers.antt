use Rattle.std.proofs.Common.{◌∙◌, sym, arith}
use Rattle.sws_words.specs.Given.{given_in}
use Rattle.sws_words.specs.Rules.{is_unwanted, bars}
use Rattle.sws_words.proofs.OptionRows.{any_behind, any_ended, any_here}
use Rattle.sws_words.proofs.rules.is_unwanted.Goals as goal

pub returns-then-bars : goal.returns-then-bars
unfolding is_unwanted
returns-then-bars c =
    let rows = c.options-option-items.result.now in
    let here = any_here (bars (given_in c.args.given.now) c.args.task) rows c.loop-option.option-index _ c.bars.result
    (omega arith) c.bars.ensures c.if-bars.true in
    sym here ∙ c.loop-option.invariant

pub loop-option-preserved : goal.loop-option-preserved
loop-option-preserved c =
    let rows = c.options-option-items.result.now in
    let behind = any_behind (bars (given_in c.args.given.now) c.args.task) rows c.loop-option.option-index _ c.bars.result
    (omega arith) c.bars.ensures c.if-bars.false in
    sym behind ∙ c.loop-option.invariant

pub returns : goal.returns
unfolding is_unwanted
returns c =
    let rows = c.options-option-items.result.now in
    let ended = any_ended (bars (given_in c.args.given.now) c.args.task) rows c.loop-option.option-index (omega arith) in
    sym ended ∙ c.loop-option.invariant
