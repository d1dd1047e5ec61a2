-- The frames of an input one after the other: what reading one takes, and what a run over all of them promises.
use Rattle.std.specs.Prelude.{◌≡◌, ◌<◌, ◌≤◌, ℕ, ◌++◌, List, [], length, take, drop, map, Option, None, Some, Result, Ok, Err, IfSome}
use Rattle.std.specs.Prelude.{if◌then◌else◌, Bool}
use Rattle.std.specs.List.{concat}
use Rattle.pix_desc.specs.Frame.{frame_length}
use Rattle.pix_io.specs.Shown.{Shown}
use Rattle.pix_io.specs.Faults.{Rose}
use Rattle.pix_io.specs.Streams.{Writes, HasEnded}
use Rattle.pix_meaning.specs.Target.{target_frame}
use Rattle.desc_table.specs.Format.{format_count}
use Rattle.frame_slices.specs.declared.frame_slice.Place.{Place}
use Rattle.frame_slices.specs.declared.sliced_frame.SlicedFrame.{SlicedFrame}
use Rattle.frame_slices.specs.FrameSlices.{target_in}
use Rattle.sws_words.specs.declared.task.Form.{Form}
use Rattle.sws_words.specs.Task.{IsFrame}
use Rattle.y4m_io.specs.declared.fault.StreamFault.{StreamFault}
use Rattle.y4m_io.specs.declared.fault.HeaderEnd.{HeaderEnd}
use Rattle.y4m_io.specs.declared.fault.HeaderEnd.TheVariants as header
use Rattle.y4m_io.specs.declared.header.Header.{Header}
use Rattle.y4m_io.specs.HeaderLine.{HeaderLine}
use Rattle.sws_run.specs.declared.ended.Ended.{Ended}
use Rattle.sws_run.specs.declared.ended.Ended.TheVariants.{Stream, ReadFault, OutOfMemory}
use Rattle.sws_run.specs.declared.frame.FrameEnd.{FrameEnd}
use Rattle.sws_run.specs.declared.frame.FrameEnd.TheVariants as end
use Rattle.sws_run.specs.declared.request.Input.{Input}
use Rattle.sws_run.specs.declared.request.Conversion.{Conversion}
use Rattle.sws_run.specs.declared.converter.Converter.{Converter}
use Rattle.sws_run.specs.Request.{form_of}
use Rattle.sws_run.specs.Sides.{pair_of}
use Rattle.sws_run.specs.Cut.{Frames, Piece, Nothing, Whole, Faulty, End, Clean, TooMany, header_line_cut, piece_cut, frames_cut}
use Rattle.sws_run.specs.Cut.{most_frames, whole_within}
use Rattle.sws_run.specs.Ending.{IsDecided, CanEnd, IfDone, IfOutOfMemory, IfReadFault, IfWriteFault, IsFrameFault}
use Rattle.sws_run.specs.Output.{ending_at, front_in}

-- a fact of the bytes left before and after, where they are told
abbrev pub IfTold : Option (List ℕ) → Option (List ℕ) → (List ℕ → List ℕ → Type 0) → Type 0
IfTold None left P = Unit {0}
IfTold (Some bytes) None P = ⊥
IfTold (Some bytes) (Some rest) P = P bytes rest

-- the target frame that slices hold
abbrev pub target_held : SlicedFrame → List ℕ
target_held frame = target_in frame.whole frame.slices.items

-- n bytes were taken from the front
pub record IsBehind (n : ℕ) (bytes rest : List ℕ) : Type 0 where
  pub within : n ≤ length bytes
  pub left : rest ≡ drop n bytes

-- ---- one frame

-- the bytes begin with this frame, of so many bytes, and its text was taken
abbrev pub TakesFrame : Form → ℕ → List ℕ → List ℕ → List ℕ → Type 0
TakesFrame form size frame bytes rest =
    (n : ℕ) × (piece_cut form size bytes ≡ Whole (record { bytes = frame; size = n })) × IsBehind n bytes rest

-- n bytes are fewer than the frame's text has that stands there
abbrev pub IsShort : ℕ → Piece → Type 0
IsShort n Nothing = Unit {0}
IsShort n (Whole frame) = n < frame.size
IsShort n (Faulty fault) = Unit {0}

-- fewer bytes were taken than the frame's text has that stands there
abbrev pub TakesPiece : Form → ℕ → List ℕ → List ℕ → Type 0
TakesPiece form size bytes rest = (n : ℕ) × IsBehind n bytes rest × IsShort n (piece_cut form size bytes)

-- whether the bytes are at their end
abbrev pub end_if : Bool → End
end_if ended = if ended then Clean else TooMany

-- ---- the header

-- the input began with this header, and exactly its line was taken
abbrev pub TakesHeader : Input → Header → List ℕ → List ℕ → Type 0
TakesHeader input header bytes rest =
    (size : ℕ) × (header_line_cut input bytes ≡ Ok (record { header = header; size = size })) × IsBehind size bytes rest

-- n bytes are fewer than the header's line has
abbrev pub IsShortOf : ℕ → Result HeaderLine StreamFault → Type 0
IsShortOf n (Ok line) = n < line.size
IsShortOf n (Err fault) = Unit {0}

-- fewer bytes were taken than the header's line has
abbrev pub TakesHeaderPart : Input → List ℕ → List ℕ → Type 0
TakesHeaderPart input bytes rest = (n : ℕ) × IsBehind n bytes rest × IsShortOf n (header_line_cut input bytes)

-- how a run ends whose input gave no header
abbrev pub ended_by : HeaderEnd → Ended
ended_by (header.Stream fault) = Stream fault 0
ended_by header.ReadFault = ReadFault 0
ended_by header.OutOfMemory = OutOfMemory 0

-- what holds of every header: a format of the table, and a frame's size
pub record IsSoundOpening (header : Header) : Type 0 where
  pub format : header.format < format_count
  pub frame : IsFrame header.width header.height

-- what is made for a stream of a conversion, once its header is known
pub record IsConverterOf (conversion : Conversion) (header : Header) (converter : Converter) : Type 0 where
  pub pair : converter.pair ≡ pair_of conversion header
  pub width : converter.width ≡ header.width
  pub height : converter.height ≡ header.height
  pub source_form : converter.source_form ≡ form_of conversion.input
  pub target_form : converter.target_form ≡ conversion.target_form
  pub workers : converter.workers ≡ conversion.workers

-- a frame of this size and these formats is one that it converts
pub record IsFrameFor (converter : Converter) (whole : Place) : Type 0 where
  pub source : converter.pair.from.desc ≡ whole.source
  pub target : converter.pair.to.desc ≡ whole.target
  pub width : converter.width ≡ whole.width
  pub height : converter.height ≡ whole.rows

-- how many bytes a source frame has
abbrev pub size_by : Converter → ℕ
size_by converter = frame_length converter.pair.from.desc converter.width converter.height

-- ---- one frame, converted

-- the next frame was taken, and it is converted to these bytes
pub record ConvertsFrame (form : Form) (converter : Converter) (old new : Shown) (target : List ℕ) : Type 0 where
  pub frame : List ℕ
  pub taken : IfTold old.bytes new.bytes (TakesFrame form (size_by converter) frame)
  pub converted : target ≡ target_frame converter.pair converter.width converter.height frame

-- What stood where no frame was converted: nothing, at the end of the input; a fault, which is one of its form; or a frame of which, at a
-- read fault, fewer bytes were taken than its text has. At want of memory nothing is said of it.
abbrev pub LeavesFrame : Form → ℕ → Shown → Shown → FrameEnd → Type 0
LeavesFrame form size old new end.Nothing = IfSome old.bytes (λ bytes. bytes ≡ []) × HasEnded new
LeavesFrame form size old new (end.Stream fault) =
    IsFrameFault form fault × IfSome old.bytes (λ bytes. piece_cut form size bytes ≡ Faulty fault)
LeavesFrame form size old new end.ReadFault = IfTold old.bytes new.bytes (TakesPiece form size)
LeavesFrame form size old new end.OutOfMemory = Unit {0}

-- whether every read of the call went well
abbrev pub frame_reads : {T : Type 0} → Result T FrameEnd → Result (Unit {0}) (Unit {0})
frame_reads (Ok value) = Ok tt
frame_reads (Err end.Nothing) = Ok tt
frame_reads (Err (end.Stream fault)) = Ok tt
frame_reads (Err end.ReadFault) = Err tt
frame_reads (Err end.OutOfMemory) = Ok tt

-- ---- all frames

-- what is put out for a frame
unfoldable pub text_by : Converter → List ℕ → List ℕ
text_by converter frame = front_in converter.target_form ++ target_frame converter.pair converter.width converter.height frame

abbrev pub frames_by : Converter → ℕ → List ℕ → Frames
frames_by converter size bytes = frames_cut converter.source_form size most_frames bytes

abbrev pub texts_by : Converter → ℕ → List ℕ → List (List ℕ)
texts_by converter size bytes = map (λ frame. text_by converter frame.bytes) (frames_by converter size bytes).frames

-- an ending that nothing outside made is that of the frames' end, and all their texts were written
pub record EndsFrames (converter : Converter) (size : ℕ) (source source' sink sink' : Shown) (ended : Ended) : Type 0 where
  pub known : IsDecided ended → CanEnd converter.source_form ended
  pub ending : IsDecided ended → IfSome source.bytes (λ bytes. let cut = frames_by converter size bytes in ended ≡ ending_at cut.end
      (length cut.frames))
  pub output : IsDecided ended → IfSome source.bytes (λ bytes. Writes sink sink' (concat (texts_by converter size bytes)))
  pub read : IfDone ended (HasEnded source')

-- at a read fault its frames are those that lie wholly in the bytes taken, and their texts were written
pub record StopsReading (converter : Converter) (size : ℕ) (source source' sink sink' : Shown) (ended : Ended) : Type 0 where
  pub cause : IfReadFault ended (λ k. Rose source.faults source'.faults)
  pub place : IfReadFault ended (λ k. IfTold source.bytes source'.bytes (λ bytes rest. (n : ℕ) × IsBehind n bytes rest
      × (k ≡ whole_within (λ frame. frame.size) n (frames_by converter size bytes).frames) × Writes sink sink'
      (concat (take k (texts_by converter size bytes)))))

-- at want of memory the texts of its frames were written, and there are at least so many
abbrev pub StopsForMemory : Converter → ℕ → Shown → Shown → Shown → Ended → Type 0
StopsForMemory converter size source sink sink' ended = IfOutOfMemory ended (λ k. IfSome source.bytes
    (λ bytes. (k ≤ length (frames_by converter size bytes).frames) × Writes sink sink' (concat (take k (texts_by converter size bytes)))))

-- at a write fault a front of the texts was written, shorter than they are, and its frames are those that lie wholly in it
pub record StopsWriting (converter : Converter) (size : ℕ) (source source' sink sink' : Shown) (ended : Ended) : Type 0 where
  pub cause : IfWriteFault ended (λ k. Rose sink.faults sink'.faults)
  pub place : IfWriteFault ended (λ k. IfSome source.bytes (λ bytes. (n : ℕ) × (n < length (concat (texts_by converter size bytes)))
      × Writes sink sink' (take n (concat (texts_by converter size bytes))) × (k ≡ whole_within length n (texts_by converter size bytes))))
