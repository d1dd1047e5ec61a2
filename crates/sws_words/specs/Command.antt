-- The command line as clap is told of it: one simple command, whose options take one value each.
use Rattle.std.specs.Prelude.{Bool, true, List, fold, codes, Some}
use Rattle.clap.specs.Walk.{Row, Rule, Text, is_empty}
use Rattle.clap.specs.Simple.{App, matches_of, new_app, new_rule, on_top, with_rule}
use Rattle.clap.specs.Faults.{fault_of}
use Rattle.sws_words.specs.Options.{CommandOption, options}

-- the command without options: its words do not begin with the program's name, and it has no flag for help
abbrev pub bare_command : App
bare_command = on_top (λ s. record s { no_binary_name = true; disable_help_flag = true }) (new_app (codes "sws"))

-- an option with two hyphens before its name
abbrev pub long_option : Text → Rule
long_option name = record (new_rule name) { long = Some name }

abbrev pub with_option : App → CommandOption → App
with_option command option = with_rule command (long_option option.name)

-- the command with these options
abbrev pub command_with : List CommandOption → App
command_with added = fold with_option bare_command added

-- the command
unfoldable pub command : App
command = command_with options

-- whether clap's definition of this command takes the words: it finds no kind of error in them
unfoldable pub takes_words : List Text → Bool
takes_words words = is_empty (fault_of command words)

-- what clap's definition finds in words that it takes: a row for each option that is given
unfoldable pub given_by : List Text → List Row
given_by words = matches_of command words
