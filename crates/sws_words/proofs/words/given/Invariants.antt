-- The command and the options that are left make the whole command.
use Rattle.std.proofs.Common.{◌≡◌}
use Rattle.std.specs.Prelude.{fold}
use Rattle.clap.specs.Simple.{app_of}
use Rattle.sws_words.specs.Command.{command_with, with_option}
use Rattle.sws_words.specs.Options.{options}
use Rattle.sws_words.proofs.OptionRows.{left_from}
use Rattle.sws_words.proofs.words.given.Given as goal

abbrev pub invariant-loop-option : goal.invariant-loop-option
invariant-loop-option l = fold with_option (app_of l.command) (left_from l.option-items l.option-index) ≡ command_with options
