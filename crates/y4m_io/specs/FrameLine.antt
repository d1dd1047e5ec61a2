-- The line in front of a frame (yuv4mpeg(5), "FRAME HEADER").
use Rattle.std.specs.Prelude.{ℕ, ◌+◌, Bool, List, [], ◌∷◌, length, Option, None, Some, Result, Ok, Err, codes, if◌then◌else◌}
use Rattle.y4m_io.specs.declared.fault.StreamFault.{StreamFault}
use Rattle.y4m_io.specs.declared.fault.StreamFault.TheVariants.{NoMagic, LineTooLong, BadTag, NoSize, BadSize, BadColour, NoFrameLine}
use Rattle.y4m_io.specs.declared.fault.StreamFault.TheVariants.{Truncated}
use Rattle.y4m_io.specs.Lines.{line_cut, agrees}

-- what a frame line begins with
abbrev pub frame_word : List ℕ
frame_word = codes "FRAME"

-- the bytes begin with it, as far as they go
abbrev pub has_frame_word : List ℕ → Bool
has_frame_word bytes = agrees frame_word bytes

abbrev pub frame_line_in : Result (List ℕ) StreamFault → Result (Option ℕ) StreamFault
frame_line_in (Err fault) = Err fault
frame_line_in (Ok line) = Ok (Some (length line + 1))

-- the size of the frame line that the bytes begin with, its newline among it; none where no byte is left
unfoldable pub frame_line_cut : List ℕ → Result (Option ℕ) StreamFault
frame_line_cut [] = Ok None
frame_line_cut (first ∷ rest) = if has_frame_word (first ∷ rest) then frame_line_in (line_cut (first ∷ rest)) else Err NoFrameLine

-- the faults that a frame line can have
abbrev pub IsFrameLineFault : StreamFault → Type 0
IsFrameLineFault NoMagic = ⊥
IsFrameLineFault LineTooLong = Unit {0}
IsFrameLineFault BadTag = ⊥
IsFrameLineFault NoSize = ⊥
IsFrameLineFault BadSize = ⊥
IsFrameLineFault BadColour = ⊥
IsFrameLineFault NoFrameLine = Unit {0}
IsFrameLineFault Truncated = Unit {0}
