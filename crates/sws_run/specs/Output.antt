-- The output is data: the text before its frames, and the text of each.
use Rattle.std.specs.Prelude.{ℕ, ◌-◌, List, [], ◌++◌, length, take, map, Option, None, Some, Result, Ok, Err, nat_le, if◌then◌else◌}
use Rattle.std.specs.List.{concat}
use Rattle.pix_meaning.specs.Target.{target_frame}
use Rattle.sws_words.specs.declared.task.Form.{Form}
use Rattle.sws_words.specs.declared.task.Form.TheVariants.{Raw, Y4m}
use Rattle.y4m_io.specs.declared.header.Header.{Header}
use Rattle.y4m_io.specs.HeaderLine.{HeaderLine}
use Rattle.y4m_io.specs.HeaderText.{header_text, frame_line_text}
use Rattle.sws_run.specs.declared.ended.Ended.{Ended}
use Rattle.sws_run.specs.declared.ended.Ended.TheVariants.{Done, Stream, TooManyFrames}
use Rattle.sws_run.specs.declared.request.Conversion.{Conversion}
use Rattle.sws_run.specs.declared.request.Request.{Request}
use Rattle.sws_run.specs.declared.request.Request.TheVariants as request
use Rattle.sws_run.specs.Cut.{Cut, Frame, End, Clean, TooMany, Broken, cut, frames_within, header_size, whole_within}
use Rattle.sws_run.specs.Report.{report_frames, report_text}
use Rattle.sws_run.specs.Sides.{pair_of}

-- an output: the text before its frames, and the texts of its frames
pub record Output : Type 0 where
  pub header : List ℕ
  pub frames : List (List ℕ)

-- ---- of a conversion

-- the output's header line: size, rate, interlacing and aspect are the input's; raw frames have none
abbrev pub header_of : Conversion → Header → Header
header_of conversion header = record header { format = conversion.target; range = conversion.target_range }

abbrev pub header_in : Form → Header → List ℕ
header_in Raw header = []
header_in Y4m header = header_text header

-- the line in front of a frame; raw frames have none
abbrev pub front_in : Form → List ℕ
front_in Raw = []
front_in Y4m = frame_line_text

-- the text of a frame: the target frame, behind its line
abbrev pub frame_text : Conversion → Header → List ℕ → List ℕ
frame_text conversion header frame =
    front_in conversion.target_form ++ target_frame (pair_of conversion header) header.width header.height frame

abbrev pub output_behind : Conversion → Option HeaderLine → List Frame → Output
output_behind conversion None frames = record { header = []; frames = [] }
output_behind conversion (Some line) frames = record {
  header = header_in conversion.target_form (header_of conversion line.header);
  frames = map (λ frame. frame_text conversion line.header frame.bytes) frames;
}

-- what is put out for an input
abbrev pub output_for : Conversion → Cut → Output
output_for conversion input = output_behind conversion input.header input.frames

-- ---- of any run

-- the input that a run reads: one that converts nothing reads nothing
unfoldable pub input_by : Result Request Ended → List ℕ → Cut
input_by (Ok (request.Convert conversion)) bytes = cut conversion.input bytes
input_by (Ok (request.Report report)) bytes = record { header = None; frames = []; end = Clean }
input_by (Err refusal) bytes = record { header = None; frames = []; end = Clean }

-- its output: what it converts to, the text of a report, or nothing where the words are refused
unfoldable pub output_by : Result Request Ended → List ℕ → Output
output_by (Ok (request.Convert conversion)) bytes = output_for conversion (cut conversion.input bytes)
output_by (Ok (request.Report report)) bytes = record { header = report_text report; frames = [] }
output_by (Err refusal) bytes = record { header = []; frames = [] }

-- the ending that an end of the input behind so many frames gives
abbrev pub ending_at : End → ℕ → Ended
ending_at Clean frames = Done frames
ending_at TooMany frames = TooManyFrames
ending_at (Broken fault) frames = Stream fault frames

-- how a run ends where nothing outside fails
unfoldable pub ending_by : Result Request Ended → List ℕ → Ended
ending_by (Ok (request.Convert conversion)) bytes = ending_at (cut conversion.input bytes).end (length (cut conversion.input bytes).frames)
ending_by (Ok (request.Report report)) bytes = Done (report_frames report)
ending_by (Err refusal) bytes = refusal

-- ---- parts of an output

-- the bytes after k frames, and all of them
abbrev pub text_after : Output → ℕ → List ℕ
text_after output k = output.header ++ concat (take k output.frames)

abbrev pub text_of : Output → List ℕ
text_of output = output.header ++ concat output.frames

-- how many frames lie wholly in the first n bytes: none before the header does
abbrev pub frames_in : Output → ℕ → ℕ
frames_in output n = if nat_le (length output.header) n then whole_within length (n - length output.header) output.frames else 0

-- what is written for the first n bytes of the input: nothing before the input's header is whole, and then a text for each whole frame
abbrev pub text_for : Cut → Output → ℕ → List ℕ
text_for input output n = if nat_le (header_size input.header) n then text_after output (frames_within input n) else []
