-- The line on notes of each ending.
use Rattle.std.specs.Prelude.{ℕ, List, [], ◌++◌, codes, decimal}
use Rattle.desc_table.specs.declared.fault.FormatFault.{FormatFault}
use Rattle.desc_table.specs.declared.fault.FormatFault.TheVariants.{Unknown, Subsampled, FloatFormat, Bitstream, OtherUnsupported}
use Rattle.sws_words.specs.declared.fault.UsageFault.{UsageFault}
use Rattle.sws_words.specs.declared.fault.UsageFault.TheVariants.{Words, Task, Missing, Unwanted, Value, Size, FixedRange, RgbRange}
use Rattle.sws_words.specs.declared.fault.UsageFault.TheVariants.{NotStreamFormat}
use Rattle.y4m_io.specs.declared.fault.StreamFault.{StreamFault}
use Rattle.y4m_io.specs.declared.fault.StreamFault.TheVariants.{NoMagic, LineTooLong, BadTag, NoSize, BadSize, BadColour, NoFrameLine}
use Rattle.y4m_io.specs.declared.fault.StreamFault.TheVariants.{Truncated}
use Rattle.sws_run.specs.declared.ended.SideName.{SideName}
use Rattle.sws_run.specs.declared.ended.SideName.TheVariants.{In, Out}
use Rattle.sws_run.specs.declared.ended.Ended.{Ended}
use Rattle.sws_run.specs.declared.ended.Ended.TheVariants.{Done, Usage, Format, PaletteTarget, Stream, ReadFault, WriteFault, OutOfMemory}
use Rattle.sws_run.specs.declared.ended.Ended.TheVariants.{TooManyFrames}

-- the number and the name of a fault of words
abbrev pub usage_text : UsageFault → List ℕ
usage_text Words = codes "1 Words"
usage_text Task = codes "2 Task"
usage_text Missing = codes "3 Missing"
usage_text Unwanted = codes "4 Unwanted"
usage_text Value = codes "5 Value"
usage_text Size = codes "6 Size"
usage_text FixedRange = codes "7 FixedRange"
usage_text RgbRange = codes "8 RgbRange"
usage_text NotStreamFormat = codes "9 NotStreamFormat"

-- of a fault of a format's name
abbrev pub format_text : FormatFault → List ℕ
format_text Unknown = codes "1 Unknown"
format_text Subsampled = codes "2 Subsampled"
format_text FloatFormat = codes "3 FloatFormat"
format_text Bitstream = codes "4 Bitstream"
format_text OtherUnsupported = codes "5 OtherUnsupported"

-- of a fault of a stream
abbrev pub stream_text : StreamFault → List ℕ
stream_text NoMagic = codes "1 NoMagic"
stream_text LineTooLong = codes "2 LineTooLong"
stream_text BadTag = codes "3 BadTag"
stream_text NoSize = codes "4 NoSize"
stream_text BadSize = codes "5 BadSize"
stream_text BadColour = codes "6 BadColour"
stream_text NoFrameLine = codes "7 NoFrameLine"
stream_text Truncated = codes "8 Truncated"

-- which name is meant
abbrev pub side_text : SideName → List ℕ
side_text In = codes " in"
side_text Out = codes " out"

abbrev pub after_frames : ℕ → List ℕ
after_frames frames = codes " after " ++ decimal frames ++ codes " frames\n"

-- the line of an ending, with its newline; none where the run is done
unfoldable pub line_of : Ended → List ℕ
line_of (Done frames) = []
line_of (Usage fault) = codes "sws: usage " ++ usage_text fault ++ codes "\n"
line_of (Format side fault) = codes "sws: format " ++ format_text fault ++ side_text side ++ codes "\n"
line_of PaletteTarget = codes "sws: format 6 PaletteTarget out\n"
line_of (Stream fault frames) = codes "sws: stream " ++ stream_text fault ++ after_frames frames
line_of (ReadFault frames) = codes "sws: read fault" ++ after_frames frames
line_of (WriteFault frames) = codes "sws: write fault" ++ after_frames frames
line_of (OutOfMemory frames) = codes "sws: out of memory" ++ after_frames frames
line_of TooManyFrames = codes "sws: too many frames\n"
