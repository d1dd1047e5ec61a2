-- The header line and the frame line that are written.
use Rattle.std.specs.Prelude.{ℕ, List, [], ◌∷◌, ◌++◌, unwrap_or, codes, decimal}
use Rattle.colour_matrix.specs.declared.class.Range.{Range}
use Rattle.colour_matrix.specs.declared.class.Range.TheVariants.{Full, Limited}
use Rattle.y4m_io.specs.declared.header.Header.{Header}
use Rattle.y4m_io.specs.Tags.{magic}
use Rattle.y4m_io.specs.StreamFormats.{text_of_format}
use Rattle.y4m_io.specs.FrameLine.{frame_word}
use Rattle.y4m_io.specs.DefaultRange.{default_range}

abbrev pub newline : List ℕ
newline = 10 ∷ []

-- a range, in its tag
abbrev pub range_text : Range → List ℕ
range_text Full = codes "FULL"
range_text Limited = codes "LIMITED"

-- the header line: a text that is not there is written as 25:1, p or 0:0, and a range as the format's default
unfoldable pub header_text : Header → List ℕ
header_text header =
    magic
    ++ codes " W" ++ decimal header.width
    ++ codes " H" ++ decimal header.height
    ++ codes " F" ++ unwrap_or header.rate (codes "25:1")
    ++ codes " I" ++ unwrap_or header.interlace (codes "p")
    ++ codes " A" ++ unwrap_or header.aspect (codes "0:0")
    ++ codes " C" ++ unwrap_or (text_of_format header.format) []
    ++ codes " XCOLORRANGE=" ++ range_text (unwrap_or header.range (default_range header.format))
    ++ newline

-- the line in front of a frame
abbrev pub frame_line_text : List ℕ
frame_line_text = frame_word ++ newline
