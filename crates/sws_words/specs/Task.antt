-- What holds of every task that words give.
use Rattle.std.specs.Prelude.{◌≡◌, ◌≤◌, ◌<◌, ◌*◌, ℕ, false, not, List, Option, Some, None, Result, Err, IfOk, IfSome}
use Rattle.colour_matrix.specs.declared.class.Range.{Range}
use Rattle.colour_matrix.specs.declared.matrix.Matrix.{Matrix}
use Rattle.colour_matrix.specs.Matrix.{matrix_named}
use Rattle.desc_table.specs.Format.{format_count}
use Rattle.sws_words.specs.Rules.{finds, has_fixed_range, has_rgb_range, is_stream_format}
use Rattle.sws_words.specs.declared.task.Form.{Form}
use Rattle.sws_words.specs.declared.task.Form.TheVariants.{Raw, Y4m}
use Rattle.sws_words.specs.declared.task.Generate.{Generate}
use Rattle.sws_words.specs.declared.task.Named.{Named}
use Rattle.sws_words.specs.declared.task.Sides.{Sides}
use Rattle.sws_words.specs.declared.task.Convert.{Convert}
use Rattle.sws_words.specs.declared.task.Task.{Task}
use Rattle.sws_words.specs.declared.task.Task.TheVariants as ask
use Rattle.sws_words.specs.declared.fault.UsageFault.{UsageFault}
use Rattle.sws_words.specs.declared.fault.WordsEnd.{WordsEnd}
use Rattle.sws_words.specs.declared.fault.WordsEnd.TheVariants.{Usage, OutOfMemory}

-- the matrix has a name
abbrev pub HasName : Matrix → Type 0
HasName matrix = (name : List ℕ) × (matrix_named name ≡ Some matrix)

-- a side: its format, where there is one, is of the table and may have the range that is given, and its matrix has a name
pub record IsSide (side : Named) : Type 0 where
  pub known : IfOk side.format (λ id. id < format_count)
  pub named : HasName side.matrix
  pub fixed : has_fixed_range side ≡ false
  pub full : has_rgb_range side ≡ false

-- a frame has 1 to 16384 pixels each way, and at most 33554432
pub record IsFrame (width height : ℕ) : Type 0 where
  pub width_least : 1 ≤ width
  pub width_most : width ≤ 16384
  pub height_least : 1 ≤ height
  pub height_most : height ≤ 16384
  pub area : width * height ≤ 33554432

-- raw frames have a side and a size, and a YUV4MPEG2 stream has neither before its header is read
abbrev pub IsSource : Form → Option Named → ℕ → ℕ → Type 0
IsSource Raw (Some side) width height = IsFrame width height
IsSource Raw None width height = ⊥
IsSource Y4m (Some side) width height = ⊥
IsSource Y4m None width height = (width ≡ 0) × (height ≡ 0)

-- the target's format, where there is one, has a form in a stream of this form
abbrev pub FitsForm : Form → Named → Type 0
FitsForm Raw side = Unit {0}
FitsForm Y4m side = finds (λ id. not (is_stream_format id)) side.format ≡ false

-- the source's matrix and range are those of the side
abbrev pub HasParts : Matrix → Option Range → Named → Type 0
HasParts matrix range side = (side.matrix ≡ matrix) × (side.range ≡ range)

pub record IsConversion (conversion : Convert) : Type 0 where
  pub from : IsSource conversion.source_form conversion.source conversion.width conversion.height
  pub parts : IfSome conversion.source (HasParts conversion.source_matrix conversion.source_range)
  pub sides : IfSome conversion.source IsSide
  pub to : IsSide conversion.target
  pub form : FitsForm conversion.target_form conversion.target
  pub named : HasName conversion.source_matrix
  pub dither_most : conversion.dither ≤ 4
  pub workers_least : 1 ≤ conversion.workers
  pub workers_most : conversion.workers ≤ 64
  pub slice_least : 1 ≤ conversion.slice
  pub slice_most : conversion.slice ≤ 16384

pub record AreSides (sides : Sides) : Type 0 where
  pub source : IsSide sides.source
  pub target : IsSide sides.target
  pub dither_most : sides.dither ≤ 4

pub record IsMaking (making : Generate) : Type 0 where
  pub sides : AreSides making.sides
  pub workers_least : 1 ≤ making.workers
  pub workers_most : making.workers ≤ 64
  pub slice_least : 1 ≤ making.slice
  pub slice_most : making.slice ≤ 16384

-- what holds of every task that words give
abbrev pub IsSound : Task → Type 0
IsSound (ask.Convert conversion) = IsConversion conversion
IsSound ask.List = Unit {0}
IsSound (ask.Ops sides) = AreSides sides
IsSound (ask.Generate making) = IsMaking making

-- words that break a rule end by its fault; of want of memory nothing is said
abbrev pub EndsBy : Result Task UsageFault → WordsEnd → Type 0
EndsBy meaning (Usage fault) = meaning ≡ Err fault
EndsBy meaning OutOfMemory = Unit {0}
