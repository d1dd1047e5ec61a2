-- The two kinds of lines, as the code that reads them tells them apart.
use Rattle.std.specs.Prelude.{◌≡◌, ℕ, ◌+◌, ◌<◌, ◌≤◌, Bool, List, length, take, IfSome, Result, Ok, Err, if◌then◌else◌, nat_lt}
use Rattle.pix_io.specs.Shown.{Shown}
use Rattle.pix_io.specs.Streams.{Takes}
use Rattle.y4m_io.specs.declared.fault.StreamFault.{StreamFault}
use Rattle.y4m_io.specs.declared.fault.StreamFault.TheVariants.{NoMagic, LineTooLong, BadTag, NoSize, BadSize, BadColour, NoFrameLine}
use Rattle.y4m_io.specs.declared.fault.StreamFault.TheVariants.{Truncated}
use Rattle.y4m_io.specs.declared.line.LineKind.{LineKind}
use Rattle.y4m_io.specs.declared.line.LineKind.TheVariants.{Header, Frame}
use Rattle.y4m_io.specs.Lines.{line_cut}
use Rattle.y4m_io.specs.HeaderLine.{is_header_front, has_magic}
use Rattle.y4m_io.specs.FrameLine.{has_frame_word}

-- the bytes begin as a line of this kind does, as far as they go
abbrev pub is_front : LineKind → List ℕ → Bool
is_front Header bytes = is_header_front bytes
is_front Frame bytes = has_frame_word bytes

-- the bytes begin with the word of a line of this kind; of a frame line as far as they go
abbrev pub has_word : LineKind → List ℕ → Bool
has_word Header bytes = has_magic bytes
has_word Frame bytes = has_frame_word bytes

-- the fault where they do not
abbrev pub wrong_word : LineKind → StreamFault
wrong_word Header = NoMagic
wrong_word Frame = NoFrameLine

-- the fault where the input ends behind so many bytes of the line
abbrev pub cut_off : LineKind → ℕ → StreamFault
cut_off Header size = if nat_lt size 9 then NoMagic else Truncated
cut_off Frame size = Truncated

-- the line of this kind that the bytes begin with, without its newline
abbrev pub line_in : LineKind → List ℕ → Result (List ℕ) StreamFault
line_in kind bytes = if has_word kind bytes then line_cut bytes else Err (wrong_word kind)

-- there are bytes, and what they begin with is no line of this kind
abbrev pub IsNoLine : LineKind → StreamFault → List ℕ → Type 0
IsNoLine kind fault bytes = (0 < length bytes) × (line_in kind bytes ≡ Err fault)

-- how many bytes the word of a line has
abbrev pub word_size : LineKind → ℕ
word_size Header = 9
word_size Frame = 5

-- the bytes left began with the line that stands in the buffer's first bytes, and exactly the line was taken
abbrev pub TakesLine : LineKind → Shown → Shown → List ℕ → ℕ → Type 0
TakesLine kind old new buf size =
    (word_size kind ≤ size) × (size ≤ 1024)
    × IfSome old.bytes (λ bytes. (line_in kind bytes ≡ Ok (take size buf)) × Takes old new (take (size + 1) bytes))

-- the faults that are found before the line is read to its end
abbrev pub IsLineFault : LineKind → StreamFault → Type 0
IsLineFault Header NoMagic = Unit {0}
IsLineFault Frame NoMagic = ⊥
IsLineFault kind LineTooLong = Unit {0}
IsLineFault kind BadTag = ⊥
IsLineFault kind NoSize = ⊥
IsLineFault kind BadSize = ⊥
IsLineFault kind BadColour = ⊥
IsLineFault Header NoFrameLine = ⊥
IsLineFault Frame NoFrameLine = Unit {0}
IsLineFault kind Truncated = Unit {0}
