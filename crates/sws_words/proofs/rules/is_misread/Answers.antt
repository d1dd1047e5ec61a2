use Rattle.std.proofs.Common.{◌∙◌, sym, arith}
use Rattle.sws_words.specs.Given.{given_in}
use Rattle.sws_words.specs.Rules.{is_misread, misreads}
use Rattle.sws_words.proofs.OptionRows.{any_behind, any_ended, any_here}
use Rattle.sws_words.proofs.rules.is_misread.Goals as goal

pub returns-then-misreads : goal.returns-then-misreads
unfolding is_misread
returns-then-misreads c =
    let rows = c.options-option-items.result.now in
    let here = any_here (misreads (given_in c.args.given.now)) rows c.loop-option.option-index _ c.misreads.result
    (omega arith) c.misreads.ensures c.if-misreads.true in
    sym here ∙ c.loop-option.invariant

pub loop-option-preserved : goal.loop-option-preserved
loop-option-preserved c =
    let rows = c.options-option-items.result.now in
    let behind = any_behind (misreads (given_in c.args.given.now)) rows c.loop-option.option-index _ c.misreads.result
    (omega arith) c.misreads.ensures c.if-misreads.false in
    sym behind ∙ c.loop-option.invariant

pub returns : goal.returns
unfolding is_misread
returns c =
    let rows = c.options-option-items.result.now in
    let ended = any_ended (misreads (given_in c.args.given.now)) rows c.loop-option.option-index (omega arith) in
    sym ended ∙ c.loop-option.invariant
