-- The table of options: which tasks have each, when they require it, and which values it takes.
use Prim.Native.String.{String}
use Rattle.std.specs.Prelude.{ℕ, Bool, true, false, not, ◌||◌, List, [], ◌∷◌, codes, Option, Some, None}
use Rattle.sws_words.specs.declared.task.Form.{Form}
use Rattle.sws_words.specs.declared.task.Form.TheVariants.{Raw, Y4m}
use Rattle.sws_words.specs.declared.options.TaskName.{TaskName}
use Rattle.sws_words.specs.declared.options.TaskName.TheVariants as task
use Rattle.sws_words.specs.declared.options.Owners.{Owners}
use Rattle.sws_words.specs.declared.options.Owners.TheVariants.{Every, Streams, Pairs, Workers, Makers}
use Rattle.sws_words.specs.declared.options.Need.{Need}
use Rattle.sws_words.specs.declared.options.Need.TheVariants.{Never, Always, UnlessStream, WithRaw}
use Rattle.sws_words.specs.declared.options.Values.{Values}
use Rattle.sws_words.specs.declared.options.Values.TheVariants.{Tasks, Forms, Sizes, Formats, Matrices, Ranges, Numbers}
use Rattle.sws_words.specs.declared.options.OptionRow.{OptionRow}

-- an option: its name without the two hyphens, the tasks that have it, when these require it, and its values
pub record CommandOption : Type 0 where
  pub name : List ℕ
  pub owners : Owners
  pub need : Need
  pub values : Values

abbrev pub option : String → Owners → Need → Values → CommandOption
option name owners need values = record { name = codes name; owners = owners; need = need; values = values }

-- the table
unfoldable pub options : List CommandOption
options =
    option "task" Every Never Tasks
    ∷ option "from" Streams Never Forms
    ∷ option "to" Streams Never Forms
    ∷ option "size" Streams WithRaw Sizes
    ∷ option "in" Pairs UnlessStream Formats
    ∷ option "out" Pairs Always Formats
    ∷ option "in-matrix" Pairs Never Matrices
    ∷ option "out-matrix" Pairs Never Matrices
    ∷ option "in-range" Pairs Never Ranges
    ∷ option "out-range" Pairs Never Ranges
    ∷ option "dither" Pairs Never (Numbers 0 4)
    ∷ option "workers" Workers Never (Numbers 1 64)
    ∷ option "slice" Workers Never (Numbers 1 16384)
    ∷ option "seed" Makers Always (Numbers 0 18446744073709551615)
    ∷ []

-- whether every task has it
abbrev pub is_every : Owners → Bool
is_every Every = true
is_every Streams = false
is_every Pairs = false
is_every Workers = false
is_every Makers = false

-- whether only tasks that make frames have it
abbrev pub is_makers : Owners → Bool
is_makers Every = false
is_makers Streams = false
is_makers Pairs = false
is_makers Workers = false
is_makers Makers = true

-- whether only tasks that read a stream of frames have it, and whether those on two formats have it
abbrev pub is_streams : Owners → Bool
is_streams Every = false
is_streams Streams = true
is_streams Pairs = false
is_streams Workers = false
is_streams Makers = false

abbrev pub is_pairs : Owners → Bool
is_pairs Every = false
is_pairs Streams = false
is_pairs Pairs = true
is_pairs Workers = false
is_pairs Makers = false

-- the options of each task
abbrev pub has_option : TaskName → Owners → Bool
has_option task.Convert owners = not (is_makers owners)
has_option task.List owners = is_every owners
has_option task.Ops owners = is_every owners || is_pairs owners
has_option task.Generate owners = not (is_streams owners)

-- whether the source is a YUV4MPEG2 stream, and whether it is raw frames; a form that has no name is neither
abbrev pub is_stream : Option Form → Bool
is_stream (Some Y4m) = true
is_stream (Some Raw) = false
is_stream None = false

abbrev pub is_raw : Option Form → Bool
is_raw (Some Raw) = true
is_raw (Some Y4m) = false
is_raw None = false

-- whether an option is required at a source of this form
abbrev pub is_needed : Need → Option Form → Bool
is_needed Never form = false
is_needed Always form = true
is_needed UnlessStream form = not (is_stream form)
is_needed WithRaw form = is_raw form

-- whether the header of a source of this form stands for an option
abbrev pub is_barred : Need → Option Form → Bool
is_barred Never form = false
is_barred Always form = false
is_barred UnlessStream form = is_stream form
is_barred WithRaw form = is_stream form

-- what a row of the program's table says
unfoldable pub option_of : OptionRow → CommandOption
option_of row = record { name = row.name.now; owners = row.owners; need = row.need; values = row.values }
