-- The input is data: it is cut into what stands before its frames, its frames, and an end.
use Rattle.std.specs.Prelude.{ℕ, zero, suc, ◌+◌, ◌-◌, List, [], ◌∷◌, length, take, drop, Option, None, Some, Result, Ok, Err, nat_le}
use Rattle.std.specs.Prelude.{if◌then◌else◌}
use Rattle.pix_desc.specs.Frame.{frame_length}
use Rattle.desc_table.specs.Format.{desc_of}
use Rattle.sws_words.specs.declared.task.Form.{Form}
use Rattle.sws_words.specs.declared.task.Form.TheVariants.{Raw, Y4m}
use Rattle.y4m_io.specs.declared.fault.StreamFault.{StreamFault}
use Rattle.y4m_io.specs.declared.fault.StreamFault.TheVariants.{Truncated}
use Rattle.y4m_io.specs.declared.header.Header.{Header}
use Rattle.y4m_io.specs.HeaderLine.{HeaderLine, header_cut}
use Rattle.y4m_io.specs.FrameLine.{frame_line_cut}
use Rattle.sws_run.specs.declared.request.Input.{Input}
use Rattle.sws_run.specs.declared.request.Input.TheVariants as input
use Rattle.sws_run.specs.Request.{form_of}

-- a frame of the input: its bytes, and how many bytes of the input its text has, the line in front of it among them
pub record Frame : Type 0 where
  pub bytes : List ℕ
  pub size : ℕ

-- how an input ends
pub data End : Type 0 where
  Clean : End
  TooMany : End
  Broken : (fault : StreamFault) → End

-- frames, one after the other, and what ends them
pub record Frames : Type 0 where
  pub frames : List Frame
  pub end : End

-- An input. Its header says format and size, and where it is a line of the input, how many bytes it has.
pub record Cut : Type 0 where
  pub header : Option HeaderLine
  pub frames : List Frame
  pub end : End

-- ---- frames

-- how many bytes the line in front of a frame has: raw frames have no line; none where no byte is left
abbrev pub front_cut : Form → List ℕ → Result (Option ℕ) StreamFault
front_cut Raw [] = Ok None
front_cut Raw (byte ∷ bytes) = Ok (Some 0)
front_cut Y4m bytes = frame_line_cut bytes

-- what stands where a frame may begin: no byte, a frame, or a fault
pub data Piece : Type 0 where
  Nothing : Piece
  Whole : (frame : Frame) → Piece
  Faulty : (fault : StreamFault) → Piece

-- a frame of so many bytes stands behind its line
abbrev pub piece_behind : ℕ → List ℕ → Result (Option ℕ) StreamFault → Piece
piece_behind size bytes (Err fault) = Faulty fault
piece_behind size bytes (Ok None) = Nothing
piece_behind size bytes (Ok (Some front)) =
    if nat_le (front + size) (length bytes) then Whole (record { bytes = take size (drop front bytes); size = front + size }) else Faulty
    Truncated

unfoldable pub piece_cut : Form → ℕ → List ℕ → Piece
piece_cut form size bytes = piece_behind size bytes (front_cut form bytes)

-- behind the last frame that there may be
abbrev pub last_end : List ℕ → End
last_end [] = Clean
last_end (byte ∷ bytes) = TooMany

abbrev pub with_frame : Frame → Frames → Frames
with_frame frame behind = record { frames = frame ∷ behind.frames; end = behind.end }

-- the frames that the bytes are cut into, at most so many
unfoldable pub frames_cut : Form → ℕ → ℕ → List ℕ → Frames
frames_cut form size zero bytes = record { frames = []; end = last_end bytes }
frames_cut form size (suc most) bytes = elim (piece_cut form size bytes) [
  | Nothing ↦ record { frames = []; end = Clean }
  | Whole frame ↦ with_frame frame (frames_cut form size most (drop frame.size bytes))
  | Faulty fault ↦ record { frames = []; end = Broken fault }
]

-- ---- the whole input

-- the header that words say
abbrev pub plain_header : ℕ → ℕ → ℕ → Header
plain_header format width height = record {
  width = width;
  height = height;
  format = format;
  range = None;
  rate = None;
  interlace = None;
  aspect = None;
}

-- the header: of raw frames the words say it, and no byte of the input
abbrev pub header_line_cut : Input → List ℕ → Result HeaderLine StreamFault
header_line_cut (input.Raw format width height) bytes = Ok (record { header = plain_header format width height; size = 0 })
header_line_cut input.Y4m bytes = header_cut bytes

-- the length of a frame of a header
unfoldable pub source_length : Header → ℕ
source_length header = frame_length (desc_of header.format) header.width header.height

-- an input has at most so many frames
abbrev pub most_frames : ℕ
most_frames = 1000000

abbrev pub cut_behind : Form → HeaderLine → List ℕ → Cut
cut_behind form line bytes =
    let behind = frames_cut form (source_length line.header) most_frames (drop line.size bytes) in
    record { header = Some line; frames = behind.frames; end = behind.end }

abbrev pub cut_after : Form → Result HeaderLine StreamFault → List ℕ → Cut
cut_after form (Err fault) bytes = record { header = None; frames = []; end = Broken fault }
cut_after form (Ok line) bytes = cut_behind form line bytes

-- the input that the bytes are
unfoldable pub cut : Input → List ℕ → Cut
cut input bytes = cut_after (form_of input) (header_line_cut input bytes) bytes

-- ---- places

-- how many of these parts, one behind the other, lie wholly in the first n bytes
abbrev pub whole_within : {X : Type 0} → (X → ℕ) → ℕ → List X → ℕ
whole_within size n [] = 0
whole_within size n (part ∷ parts) = if nat_le (size part) n then suc (whole_within size (n - size part) parts) else 0

abbrev pub header_size : Option HeaderLine → ℕ
header_size None = 0
header_size (Some line) = line.size

-- how many frames lie wholly in the first n bytes of the input: none before its header does
abbrev pub frames_within : Cut → ℕ → ℕ
frames_within input n =
    let header = header_size input.header in
    if nat_le header n then whole_within (λ frame. frame.size) (n - header) input.frames else 0
