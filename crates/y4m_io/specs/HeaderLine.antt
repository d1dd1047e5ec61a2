-- What a header line says (yuv4mpeg(5), "STREAM HEADER").
use Rattle.std.specs.Prelude.{◌≡◌, ◌≤◌, true, ℕ, ◌+◌, ◌*◌, Bool, ◌&&◌, ◌||◌, List, length, slice_index, Option, None, Some, Result, Ok, Err}
use Rattle.std.specs.Prelude.{nat_lt, nat_le, if◌then◌else◌}
use Rattle.std.specs.List.{list_all}
use Rattle.std.specs.Option.{option_and_then, ok_or}
use Rattle.std.specs.Char.{is_ascii_digit}
use Rattle.std.specs.Str.Parse.{digits_value}
use Rattle.y4m_io.specs.declared.fault.StreamFault.{StreamFault}
use Rattle.y4m_io.specs.declared.fault.StreamFault.TheVariants.{NoMagic, LineTooLong, BadTag, NoSize, BadSize, BadColour, NoFrameLine}
use Rattle.y4m_io.specs.declared.fault.StreamFault.TheVariants.{Truncated}
use Rattle.y4m_io.specs.declared.header.Header.{Header}
use Rattle.y4m_io.specs.Lines.{is_newline, line_cut, agrees}
use Rattle.y4m_io.specs.Tags.{magic, is_space, tags_of, letter, is_known_tag, text_of, range_of}
use Rattle.y4m_io.specs.StreamFormats.{format_of_text, is_stream_format}

-- one decimal digit or more
abbrev pub is_numeral : List ℕ → Bool
is_numeral text = nat_lt 0 (length text) && list_all is_ascii_digit text

-- a width or a height: the number that its digits write, 1 to 16384
abbrev pub extent_of : List ℕ → Option ℕ
extent_of text =
    let number = digits_value 10 text in
    if is_numeral text && (nat_le 1 number && nat_le number 16384) then Some number else None

-- a frame has at most 33554432 pixels
abbrev pub sized : Option ℕ → Option ℕ → Result (ℕ × ℕ) StreamFault
sized None height = Err BadSize
sized (Some width) None = Err BadSize
sized (Some width) (Some height) = if nat_le (width * height) 33554432 then Ok (width, height) else Err BadSize

-- the width and the height of these texts
abbrev pub size_of : Option (List ℕ) → Option (List ℕ) → Result (ℕ × ℕ) StreamFault
size_of None height = Err NoSize
size_of (Some width) None = Err NoSize
size_of (Some width) (Some height) = sized (extent_of width) (extent_of height)

-- the format of a C tag's text
abbrev pub colour_of : Option (List ℕ) → Result ℕ StreamFault
colour_of text = ok_or (option_and_then format_of_text text) BadColour

-- the header of a size and a format, where both are there, with what the other tags say
abbrev pub header_with : Result (ℕ × ℕ) StreamFault → Result ℕ StreamFault → List (List ℕ) → Result Header StreamFault
header_with (Err fault) format tags = Err fault
header_with (Ok size) (Err fault) tags = Err fault
header_with (Ok size) (Ok format) tags = Ok (record {
  width = size.0;
  height = size.1;
  format = format;
  range = range_of tags;
  rate = text_of (letter "F") tags;
  interlace = text_of (letter "I") tags;
  aspect = text_of (letter "A") tags;
})

-- the header of these tags: an unknown tag is found first, then what is wrong with the size, then with the colour space
unfoldable pub header_of : List (List ℕ) → Result Header StreamFault
header_of tags =
    let size = size_of (text_of (letter "W") tags) (text_of (letter "H") tags) in
    if list_all is_known_tag tags then header_with size (colour_of (text_of (letter "C") tags)) tags else Err BadTag

-- the byte behind the first word of a line
abbrev pub ends_word : ℕ → Bool
ends_word byte = is_space byte || is_newline byte

-- the bytes begin as a header line does, as far as they go
abbrev pub is_header_front : List ℕ → Bool
is_header_front bytes = agrees magic bytes && (nat_le (length bytes) 9 || ends_word (slice_index bytes 9))

-- the bytes begin with the first word of a header line
abbrev pub has_magic : List ℕ → Bool
has_magic bytes = nat_le 9 (length bytes) && is_header_front bytes

-- a header line: what it says, and how many bytes it has, its newline among them
pub record HeaderLine : Type 0 where
  pub header : Header
  pub size : ℕ

abbrev pub with_size : ℕ → Result Header StreamFault → Result HeaderLine StreamFault
with_size size (Err fault) = Err fault
with_size size (Ok header) = Ok (record { header = header; size = size })

abbrev pub header_in : Result (List ℕ) StreamFault → Result HeaderLine StreamFault
header_in (Err fault) = Err fault
header_in (Ok line) = with_size (length line + 1) (header_of (tags_of line))

-- the header line that the bytes begin with
unfoldable pub header_cut : List ℕ → Result HeaderLine StreamFault
header_cut bytes = if has_magic bytes then header_in (line_cut bytes) else Err NoMagic

-- the faults that a header line can have
abbrev pub IsHeaderFault : StreamFault → Type 0
IsHeaderFault NoMagic = Unit {0}
IsHeaderFault LineTooLong = Unit {0}
IsHeaderFault BadTag = Unit {0}
IsHeaderFault NoSize = Unit {0}
IsHeaderFault BadSize = Unit {0}
IsHeaderFault BadColour = Unit {0}
IsHeaderFault NoFrameLine = ⊥
IsHeaderFault Truncated = Unit {0}

-- what every header has: a size within the limits, and a format of a stream
pub record IsSoundHeader (header : Header) : Type 0 where
  pub width_least : 1 ≤ header.width
  pub width_most : header.width ≤ 16384
  pub height_least : 1 ≤ header.height
  pub height_most : header.height ≤ 16384
  pub area : header.width * header.height ≤ 33554432
  pub format : is_stream_format header.format ≡ true
