-- What is given: the options that stand in the words, with their values.
use Rattle.std.specs.Prelude.{ℕ, List, [], codes, Option, Some, unwrap_or, option_and_then, option_map}
use Rattle.std.specs.Option.{option_map_or}
use Rattle.clap.specs.Walk.{Row, Text, first_of, rows_of}
use Rattle.clap.specs.Matches.{found_of}
use Rattle.clap.specs.declared.parser.matches.ArgMatches.{ArgMatches}
use Rattle.colour_matrix.specs.declared.class.Range.{Range}
use Rattle.colour_matrix.specs.declared.matrix.Matrix.{Matrix}
use Rattle.colour_matrix.specs.Matrix.{bt601, matrix_named}
use Rattle.desc_table.specs.Refused.{lookup}
use Rattle.sws_words.specs.Values.{form_named, number_within, range_named, size_of, task_named}
use Rattle.sws_words.specs.declared.task.Form.{Form}
use Rattle.sws_words.specs.declared.task.Form.TheVariants.{Raw}
use Rattle.sws_words.specs.declared.task.Named.{Named}
use Rattle.sws_words.specs.declared.options.TaskName.{TaskName}
use Rattle.sws_words.specs.declared.options.TaskName.TheVariants as task

-- what clap answers, as rows
abbrev pub given_in : ArgMatches → List Row
given_in matches = rows_of (found_of matches)

-- the value of an option, where it is given
unfoldable pub value_of : List Row → Text → Option Text
value_of given name = first_of name given

-- the task: convert, where none is given
abbrev pub task_given : List Row → Option TaskName
task_given given = option_map_or task_named (value_of given (codes "task")) (Some task.Convert)

-- the form of a stream: raw, where none is given
abbrev pub form_given : List Row → Text → Option Form
form_given given name = option_map_or form_named (value_of given name) (Some Raw)

-- the size
abbrev pub size_given : List Row → Option (ℕ × ℕ)
size_given given = option_and_then size_of (value_of given (codes "size"))

-- a range
abbrev pub range_given : List Row → Text → Option Range
range_given given name = option_and_then range_named (value_of given name)

-- a matrix: bt601, where none is given
abbrev pub matrix_given : List Row → Text → Matrix
matrix_given given name = unwrap_or (option_and_then matrix_named (value_of given name)) bt601

-- a number of a range
abbrev pub number_given : List Row → Text → ℕ → ℕ → Option ℕ
number_given given name least most = option_and_then (number_within least most) (value_of given name)

-- a side: what its name finds, its matrix and its range
abbrev pub side_given : List Row → Text → Text → Text → Named
side_given given name matrix range = record { format = lookup name; matrix = matrix_given given matrix; range = range_given given range }

-- the source, where its format is named
unfoldable pub source_given : List Row → Option Named
source_given given = option_map (λ name. side_given given name (codes "in-matrix") (codes "in-range")) (value_of given (codes "in"))

-- the source of a task that does not read it
unfoldable pub source_named : List Row → Named
source_named given = side_given given (unwrap_or (value_of given (codes "in")) []) (codes "in-matrix") (codes "in-range")

-- the target
unfoldable pub target_given : List Row → Named
target_given given = side_given given (unwrap_or (value_of given (codes "out")) []) (codes "out-matrix") (codes "out-range")
