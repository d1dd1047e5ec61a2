-- What a row of the program's table of colour spaces says.
use Rattle.y4m_io.specs.StreamFormats.{ColourSpace}
use Rattle.y4m_io.specs.declared.stream_format.Space.{Space}

abbrev pub space_of : Space → ColourSpace
space_of row = record { text = row.text.now; name = row.name.now }
