-- The two sides of a conversion.
use Rattle.std.specs.Prelude.{ℕ, Option, unwrap_or}
use Rattle.std.specs.Option.{option_or}
use Rattle.colour_matrix.specs.declared.class.Range.{Range}
use Rattle.colour_matrix.specs.declared.matrix.Matrix.{Matrix}
use Rattle.pix_meaning.specs.declared.pair.Side.{Side}
use Rattle.pix_meaning.specs.declared.pair.Pair.{Pair}
use Rattle.row_plan.specs.Evaluated.{side_at}
use Rattle.y4m_io.specs.declared.header.Header.{Header}
use Rattle.y4m_io.specs.DefaultRange.{default_range}
use Rattle.sws_run.specs.declared.request.Conversion.{Conversion}

-- a side of a format: its range is the one that is given, or else its format's
abbrev pub side_with : ℕ → Matrix → Option Range → Side
side_with format matrix range = side_at format matrix (unwrap_or range (default_range format))

-- the source: its format is the header's, and its range that of the words, or else the header's, or else its format's
abbrev pub source_side : Conversion → Header → Side
source_side conversion header =
    side_with header.format conversion.source_matrix (option_or conversion.source_range header.range)

-- the target: its range is that of the words, or else its format's
abbrev pub target_side : Conversion → Side
target_side conversion = side_with conversion.target conversion.target_matrix conversion.target_range

unfoldable pub pair_of : Conversion → Header → Pair
pair_of conversion header = record { from = source_side conversion header; to = target_side conversion; dither = conversion.dither }
