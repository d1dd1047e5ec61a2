-- The worked lines, by computation.
use Rattle.std.proofs.Common.{refl}
use Rattle.std.specs.Fmt.{digits}
use Rattle.desc_table.specs.Format.{formats, format_at}
use Rattle.desc_table.specs.Refused.{refused, row_named, fault_named, lookup}
use Rattle.y4m_io.specs.Lines.{line_cut}
use Rattle.y4m_io.specs.StreamFormats.{colour_spaces, format_of_text, text_of_name}
use Rattle.y4m_io.specs.HeaderLine.{header_of, header_cut}
use Rattle.y4m_io.specs.FrameLine.{frame_line_cut}
use Rattle.y4m_io.specs.HeaderText.{header_text}
use Rattle.y4m_io.specs.Examples.{WorkedLines, WorkedTexts}

pub worked_lines : WorkedLines
unfolding formats refused row_named fault_named lookup line_cut colour_spaces format_of_text header_of header_cut frame_line_cut
worked_lines = record {
  whole = refl;
  deep = refl;
  last_of_repeated = refl;
  empty_text = refl;
  many_digits = refl;
  nothing = refl;
  other_word = refl;
  word_alone = refl;
  unknown_tag = refl;
  no_height = refl;
  no_tags = refl;
  no_width = refl;
  too_large = refl;
  no_colour = refl;
  other_colour = refl;
  frame = refl;
  frame_with_tags = refl;
  no_frame = refl;
  other_frame = refl;
  short_frame = refl;
  long_frame = refl;
}

pub worked_texts : WorkedTexts
unfolding formats format_at refused row_named fault_named lookup colour_spaces text_of_name header_text digits
worked_texts = record { defaults = refl; full = refl; gray = refl; copied = refl }
