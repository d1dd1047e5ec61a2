-- What holds of an option holds of one that is left.
use Rattle.std.proofs.Common.{◌≡◌}
use Rattle.std.specs.List.{list_any}
use Rattle.sws_words.specs.Given.{given_in}
use Rattle.sws_words.specs.Options.{options}
use Rattle.sws_words.specs.Rules.{lacks}
use Rattle.sws_words.proofs.OptionRows.{left_from}
use Rattle.sws_words.proofs.rules.is_missing.Given as goal

abbrev pub invariant-loop-option : goal.invariant-loop-option
invariant-loop-option l =
    list_any (lacks (given_in l.fn.given) l.fn.task) (left_from l.option-items l.option-index)
    ≡ list_any (lacks (given_in l.fn.given) l.fn.task) options
