-- The lines of a YUV4MPEG2 stream (yuv4mpeg(5) of mjpegtools, "STREAM HEADER" and "FRAME HEADER").
use Rattle.std.specs.Prelude.{ℕ, Bool, List, length, zip, Result, Ok, Err, nat_eq, nat_lt, ◌==◌, if◌then◌else◌}
use Rattle.std.specs.List.{before_first, list_all}
use Rattle.y4m_io.specs.declared.fault.StreamFault.{StreamFault}
use Rattle.y4m_io.specs.declared.fault.StreamFault.TheVariants.{LineTooLong, Truncated}

-- the byte that ends a line
abbrev pub is_newline : ℕ → Bool
is_newline byte = byte == 10

-- the bytes before the first newline
abbrev pub line_of : List ℕ → List ℕ
line_of bytes = before_first is_newline bytes

-- the line that the bytes begin with, without its newline: at most 1024 bytes, and the bytes go on behind it
unfoldable pub line_cut : List ℕ → Result (List ℕ) StreamFault
line_cut bytes =
    let line = line_of bytes in
    if nat_lt 1024 (length line) then Err LineTooLong else (if nat_eq (length line) (length bytes) then Err Truncated else Ok line)

-- the bytes are those of the word, as far as both go
abbrev pub agrees : List ℕ → List ℕ → Bool
agrees word bytes = list_all (λ pair. pair.1 == pair.0) (zip word bytes)
