-- The rules of the command line in their order, and the meaning of its words: a task, or the fault of the first rule that is broken.
use Prim.Native.String.{String}
use Rattle.std.specs.Prelude.{ℕ, Bool, true, false, not, ◌&&◌, ◌||◌, if◌then◌else◌, List, [], ◌∷◌, codes, Option, Some, None, is_some}
use Rattle.std.specs.Prelude.{unwrap_or, Result, Ok, Err}
use Rattle.std.specs.Option.{option_map_or}
use Rattle.std.specs.List.{list_any}
use Rattle.std.specs.Str.{bytes_eq}
use Rattle.clap.specs.Walk.{Row, Text}
use Rattle.colour_matrix.specs.declared.class.Range.{Range}
use Rattle.colour_matrix.specs.declared.class.Range.TheVariants.{Full, Limited}
use Rattle.desc_table.specs.declared.fault.FormatFault.{FormatFault}
use Rattle.desc_table.specs.Format.{desc_of, name_of}
use Rattle.sws_words.specs.Command.{given_by, takes_words}
use Rattle.sws_words.specs.Given.{form_given, matrix_given, number_given, range_given, size_given, source_given, source_named, target_given}
use Rattle.sws_words.specs.Given.{task_given, value_of}
use Rattle.sws_words.specs.Options.{CommandOption, has_option, is_barred, is_needed, is_stream, options}
use Rattle.sws_words.specs.Values.{is_frame_size, is_value}
use Rattle.sws_words.specs.declared.fault.UsageFault.{UsageFault}
use Rattle.sws_words.specs.declared.fault.UsageFault.TheVariants as fault
use Rattle.sws_words.specs.declared.task.Form.TheVariants.{Raw}
use Rattle.sws_words.specs.declared.task.Convert.{Convert}
use Rattle.sws_words.specs.declared.task.Generate.{Generate}
use Rattle.sws_words.specs.declared.task.Named.{Named}
use Rattle.sws_words.specs.declared.task.Sides.{Sides}
use Rattle.sws_words.specs.declared.task.Task.{Task}
use Rattle.sws_words.specs.declared.task.Task.TheVariants as ask
use Rattle.sws_words.specs.declared.options.TaskName.{TaskName}
use Rattle.sws_words.specs.declared.options.TaskName.TheVariants as task

-- whether an option is given
abbrev pub is_given : List Row → CommandOption → Bool
is_given given option = is_some (value_of given option.name)

-- Missing: the task has an option, the source's form requires it, and it is not given
unfoldable pub lacks : List Row → TaskName → CommandOption → Bool
lacks given name option =
    has_option name option.owners && is_needed option.need (form_given given (codes "from")) && not (is_given given option)

unfoldable pub is_missing : List Row → TaskName → Bool
is_missing given name = list_any (lacks given name) options

-- Unwanted: an option is given that the task does not have, or that the source's header stands for
unfoldable pub bars : List Row → TaskName → CommandOption → Bool
bars given name option =
    is_given given option && (not (has_option name option.owners) || is_barred option.need (form_given given (codes "from")))

unfoldable pub is_unwanted : List Row → TaskName → Bool
is_unwanted given name = list_any (bars given name) options

-- Value: the value of an option is none of its values
unfoldable pub misreads : List Row → CommandOption → Bool
misreads given option = option_map_or (λ text. not (is_value option.values text)) (value_of given option.name) false

unfoldable pub is_misread : List Row → Bool
is_misread given = list_any (misreads given) options

-- Size: the size is not that of a frame
abbrev pub is_no_frame : List Row → Bool
is_no_frame given = option_map_or (λ size. not (is_frame_size size.0 size.1)) (size_given given) false

-- whether a side's range is given as limited
abbrev pub is_limited : Option Range → Bool
is_limited (Some Limited) = true
is_limited (Some Full) = false
is_limited None = false

-- whether the name of a side finds a format, and this holds of it
abbrev pub finds : (ℕ → Bool) → Result ℕ FormatFault → Bool
finds holds (Ok id) = holds id
finds holds (Err fault) = false

-- FixedRange: a side is yuvj444p, and its range is limited
abbrev pub is_jpeg : ℕ → Bool
is_jpeg id = bytes_eq (name_of id) (codes "yuvj444p")

abbrev pub has_fixed_range : Named → Bool
has_fixed_range side = is_limited side.range && finds is_jpeg side.format

-- RgbRange: a side is RGB or has a palette, and its range is limited
abbrev pub is_rgb_format : ℕ → Bool
is_rgb_format id = (desc_of id).rgb || (desc_of id).palette

abbrev pub has_rgb_range : Named → Bool
has_rgb_range side = is_limited side.range && finds is_rgb_format side.format

-- the rule on sides, of the source, where it is named, and the target
abbrev pub either_side : (Named → Bool) → List Row → Bool
either_side breaks given = option_map_or breaks (source_given given) false || breaks (target_given given)

-- NotStreamFormat: the output is a YUV4MPEG2 stream, and the target's format is none of those that have a form there
abbrev pub stream_formats : List String
stream_formats =
    "yuv444p" ∷ "yuv444p9le" ∷ "yuv444p10le" ∷ "yuv444p12le" ∷ "yuv444p14le" ∷ "yuv444p16le"
    ∷ "gray" ∷ "gray10le" ∷ "gray12le" ∷ "gray16le" ∷ "yuvj444p" ∷ []

unfoldable pub is_stream_format : ℕ → Bool
is_stream_format id = list_any (λ name. bytes_eq (name_of id) (codes name)) stream_formats

abbrev pub has_no_stream_form : List Row → Bool
has_no_stream_form given =
    is_stream (form_given given (codes "to")) && finds (λ id. not (is_stream_format id)) (target_given given).format

-- the conversion that is asked for, where no rule is broken
unfoldable pub conversion_given : List Row → Convert
conversion_given given = record {
  source = source_given given;
  source_matrix = matrix_given given (codes "in-matrix");
  source_range = range_given given (codes "in-range");
  width = (unwrap_or (size_given given) (0, 0)).0;
  height = (unwrap_or (size_given given) (0, 0)).1;
  source_form = unwrap_or (form_given given (codes "from")) Raw;
  target = target_given given;
  target_form = unwrap_or (form_given given (codes "to")) Raw;
  dither = unwrap_or (number_given given (codes "dither") 0 4) 0;
  workers = unwrap_or (number_given given (codes "workers") 1 64) 1;
  slice = unwrap_or (number_given given (codes "slice") 1 16384) 16;
}

-- the two sides that are named, where no rule is broken
unfoldable pub sides_given : List Row → Sides
sides_given given = record {
  source = source_named given;
  target = target_given given;
  dither = unwrap_or (number_given given (codes "dither") 0 4) 0;
}

-- the frames that are to be made, where no rule is broken
unfoldable pub making_given : List Row → Generate
making_given given = record {
  sides = sides_given given;
  workers = unwrap_or (number_given given (codes "workers") 1 64) 1;
  slice = unwrap_or (number_given given (codes "slice") 1 16384) 16;
  seed = unwrap_or (number_given given (codes "seed") 0 18446744073709551615) 0;
}

-- the task of a name
abbrev pub asked : List Row → TaskName → Task
asked given task.Convert = ask.Convert (conversion_given given)
asked given task.List = ask.List
asked given task.Ops = ask.Ops (sides_given given)
asked given task.Generate = ask.Generate (making_given given)

-- the rules after the task's name is known
abbrev pub ruled : List Row → TaskName → Result Task UsageFault
ruled given name =
    if is_missing given name then Err fault.Missing
    else (if is_unwanted given name then Err fault.Unwanted
    else (if is_misread given then Err fault.Value
    else (if is_no_frame given then Err fault.Size
    else (if either_side has_fixed_range given then Err fault.FixedRange
    else (if either_side has_rgb_range given then Err fault.RgbRange
    else (if has_no_stream_form given then Err fault.NotStreamFormat
    else Ok (asked given name)))))))

-- the rules after the words are taken
abbrev pub read : List Row → Option TaskName → Result Task UsageFault
read given None = Err fault.Task
read given (Some name) = ruled given name

unfoldable pub task_by : List Row → Result Task UsageFault
task_by given = read given (task_given given)

-- what the words ask for, or the first fault
unfoldable pub task_of : List Text → Result Task UsageFault
task_of words = if takes_words words then task_by (given_by words) else Err fault.Words
