-- What the words ask for, once the names of their formats are found, or how a run ends without it.
use Rattle.std.specs.Prelude.{◌≡◌, ◌<◌, ◌≤◌, true, false, ℕ, List, Option, None, Some, Result, Ok, Err, if◌then◌else◌}
use Rattle.desc_table.specs.declared.fault.FormatFault.{FormatFault}
use Rattle.desc_table.specs.Format.{format_count, desc_of}
use Rattle.pix_meaning.specs.declared.pair.Pair.{Pair}
use Rattle.row_plan.specs.Evaluated.{IsTableSide}
use Rattle.sws_words.specs.declared.fault.UsageFault.{UsageFault}
use Rattle.sws_words.specs.declared.task.Form.{Form}
use Rattle.sws_words.specs.declared.task.Form.TheVariants.{Raw, Y4m}
use Rattle.sws_words.specs.declared.task.Named.{Named}
use Rattle.sws_words.specs.declared.task.Convert.{Convert}
use Rattle.sws_words.specs.declared.task.Generate.{Generate}
use Rattle.sws_words.specs.declared.task.Sides.{Sides}
use Rattle.sws_words.specs.declared.task.Task.{Task}
use Rattle.sws_words.specs.declared.task.Task.TheVariants as ask
use Rattle.sws_words.specs.Rules.{task_of}
use Rattle.sws_words.specs.Task.{HasName, IsFrame}
use Rattle.y4m_io.specs.StreamFormats.{is_stream_format}
use Rattle.sws_run.specs.declared.ended.Ended.{Ended}
use Rattle.sws_run.specs.declared.ended.Ended.TheVariants.{Usage, Format, PaletteTarget}
use Rattle.sws_run.specs.declared.ended.SideName.{SideName}
use Rattle.sws_run.specs.declared.ended.SideName.TheVariants.{In, Out}
use Rattle.sws_run.specs.declared.request.Input.{Input}
use Rattle.sws_run.specs.declared.request.Input.TheVariants as input
use Rattle.sws_run.specs.declared.request.Conversion.{Conversion}
use Rattle.sws_run.specs.declared.request.Making.{Making}
use Rattle.sws_run.specs.declared.request.Report.{Report}
use Rattle.sws_run.specs.declared.request.Report.TheVariants as report
use Rattle.sws_run.specs.declared.request.Request.{Request}
use Rattle.sws_run.specs.declared.request.Request.TheVariants as request
use Rattle.sws_run.specs.Sides.{side_with}

-- the format of a side: what its name found
abbrev pub format_of : SideName → Result ℕ FormatFault → Result ℕ Ended
format_of side (Err fault) = Err (Format side fault)
format_of side (Ok id) = Ok id

abbrev pub raw_input : ℕ → ℕ → Result ℕ Ended → Result Input Ended
raw_input width height (Err refusal) = Err refusal
raw_input width height (Ok id) = Ok (input.Raw id width height)

-- where the frames begin: the words name the format of raw frames alone
abbrev pub input_of : Option Named → ℕ → ℕ → Result Input Ended
input_of None width height = Ok input.Y4m
input_of (Some side) width height = raw_input width height (format_of In side.format)

abbrev pub plain : Result ℕ Ended → Result ℕ Ended
plain (Err refusal) = Err refusal
plain (Ok id) = if (desc_of id).palette then Err PaletteTarget else Ok id

-- the target's format, which may not have a palette
abbrev pub target_of : Result ℕ FormatFault → Result ℕ Ended
target_of found = plain (format_of Out found)

-- the conversion between what was found; of two refusals the source's comes first
abbrev pub conversion_with : Convert → Result Input Ended → Result ℕ Ended → Result Conversion Ended
conversion_with asked (Err refusal) target = Err refusal
conversion_with asked (Ok input) (Err refusal) = Err refusal
conversion_with asked (Ok input) (Ok target) = Ok (record {
  input = input;
  source_matrix = asked.source_matrix;
  source_range = asked.source_range;
  target = target;
  target_matrix = asked.target.matrix;
  target_range = asked.target.range;
  target_form = asked.target_form;
  dither = asked.dither;
  workers = asked.workers;
  slice = asked.slice;
})

abbrev pub conversion_of : Convert → Result Conversion Ended
conversion_of asked = conversion_with asked (input_of asked.source asked.width asked.height) (target_of asked.target.format)

abbrev pub to_convert : Result Conversion Ended → Result Request Ended
to_convert (Err refusal) = Err refusal
to_convert (Ok conversion) = Ok (request.Convert conversion)

-- the pair of two sides whose formats are found; of two refusals the source's comes first
abbrev pub pair_with : Sides → Result ℕ Ended → Result ℕ Ended → Result Pair Ended
pair_with sides (Err refusal) target = Err refusal
pair_with sides (Ok source) (Err refusal) = Err refusal
pair_with sides (Ok source) (Ok target) = Ok (record {
  from = side_with source sides.source.matrix sides.source.range;
  to = side_with target sides.target.matrix sides.target.range;
  dither = sides.dither;
})

abbrev pub pair_between : Sides → Result Pair Ended
pair_between sides = pair_with sides (format_of In sides.source.format) (target_of sides.target.format)

abbrev pub to_ops : Result Pair Ended → Result Request Ended
to_ops (Err refusal) = Err refusal
to_ops (Ok pair) = Ok (request.Report (report.Ops pair))

-- what is to be made, between the sides that were found
abbrev pub making_with : Generate → Result Pair Ended → Result Making Ended
making_with asked (Err refusal) = Err refusal
making_with asked (Ok pair) = Ok (record { pair = pair; workers = asked.workers; slice = asked.slice; seed = asked.seed })

abbrev pub making_of : Generate → Result Making Ended
making_of asked = making_with asked (pair_between asked.sides)

abbrev pub to_generate : Result Making Ended → Result Request Ended
to_generate (Err refusal) = Err refusal
to_generate (Ok making) = Ok (request.Report (report.Generate making))

-- what a task asks for
abbrev pub request_of : Result Task UsageFault → Result Request Ended
request_of (Err fault) = Err (Usage fault)
request_of (Ok ask.List) = Ok (request.Report report.List)
request_of (Ok (ask.Ops sides)) = to_ops (pair_between sides)
request_of (Ok (ask.Generate asked)) = to_generate (making_of asked)
request_of (Ok (ask.Convert asked)) = to_convert (conversion_of asked)

-- the meaning of the words: what they ask for, or how the run ends without it
abbrev pub asked_by : List (List ℕ) → Result Request Ended
asked_by words = request_of (task_of words)

-- the form of the source
abbrev pub form_of : Input → Form
form_of (input.Raw format width height) = Raw
form_of input.Y4m = Y4m

-- raw frames have a format of the table and a frame's size
abbrev pub IsSoundInput : Input → Type 0
IsSoundInput (input.Raw format width height) = (format < format_count) × IsFrame width height
IsSoundInput input.Y4m = Unit {0}

-- the target has a form in a stream of this form
abbrev pub HasForm : Form → ℕ → Type 0
HasForm Raw target = Unit {0}
HasForm Y4m target = is_stream_format target ≡ true

-- what holds of every conversion that words ask for
pub record IsSoundConversion (conversion : Conversion) : Type 0 where
  pub input : IsSoundInput conversion.input
  pub target : conversion.target < format_count
  pub plain : (desc_of conversion.target).palette ≡ false
  pub form : HasForm conversion.target_form conversion.target
  pub source_matrix : HasName conversion.source_matrix
  pub target_matrix : HasName conversion.target_matrix
  pub dither : conversion.dither ≤ 4
  pub workers : 0 < conversion.workers
  pub slice : 0 < conversion.slice

-- a pair of two formats of the table, of which the target has no palette
pub record IsTablePair (pair : Pair) : Type 0 where
  pub from : IsTableSide pair.from
  pub to : IsTableSide pair.to
  pub plain : pair.to.desc.palette ≡ false
  pub dither : pair.dither ≤ 4

pub record IsSoundMaking (making : Making) : Type 0 where
  pub pair : IsTablePair making.pair
  pub workers : 0 < making.workers
  pub slice : 0 < making.slice

abbrev pub IsSoundReport : Report → Type 0
IsSoundReport report.List = Unit {0}
IsSoundReport (report.Ops pair) = IsTablePair pair
IsSoundReport (report.Generate making) = IsSoundMaking making

abbrev pub IsSound : Request → Type 0
IsSound (request.Convert conversion) = IsSoundConversion conversion
IsSound (request.Report report) = IsSoundReport report
