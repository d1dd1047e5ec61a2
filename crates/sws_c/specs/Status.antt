-- The numbers that the calls answer, and what they write.
use Rattle.std.specs.Prelude.{◌≡◌, ◌⊎◌, ℕ, Option, None, Some, Result, Ok, Err}
use Rattle.desc_table.specs.declared.fault.FormatFault.{FormatFault}
use Rattle.desc_table.specs.declared.fault.FormatFault.TheVariants.{Unknown, Subsampled, FloatFormat, Bitstream, OtherUnsupported}
use Rattle.frame_calls.specs.declared.refusal.Refusal.{Refusal}
use Rattle.frame_calls.specs.declared.refusal.Refusal.TheVariants.{Format, PaletteTarget, Matrix, Range, Dither}
use Rattle.frame_calls.specs.declared.refusal.Refusal.TheVariants.{Size, InputLength, OutputLength, OutOfMemory, NameRoom}

-- the number of a refusal
abbrev pub number_of : Refusal → ℕ
number_of Format = 1
number_of PaletteTarget = 2
number_of Matrix = 3
number_of Range = 4
number_of Dither = 5
number_of Size = 6
number_of InputLength = 7
number_of OutputLength = 8
number_of OutOfMemory = 9
number_of NameRoom = 10

-- the number of what a call asks for: 0, or that of its refusal
abbrev pub status_of : {A : Type 0} → Result A Refusal → ℕ
status_of (Ok asked) = 0
status_of (Err refusal) = number_of refusal

-- the number of what the name of a format finds
abbrev pub format_status : Result ℕ FormatFault → ℕ
format_status (Ok row) = 0
format_status (Err Unknown) = 11
format_status (Err Subsampled) = 12
format_status (Err FloatFormat) = 13
format_status (Err Bitstream) = 14
format_status (Err OtherUnsupported) = 15

-- the number of what the name of a matrix finds
abbrev pub matrix_status : {A : Type 0} → Option A → ℕ
matrix_status (Some matrix) = 0
matrix_status None = 11

-- what is written: the answer, or what stood there before
abbrev pub answer_or : {A E : Type 0} → Result A E → A → A
answer_or (Ok answer) before = answer
answer_or (Err fault) before = before

-- likewise what was found
abbrev pub found_or : {A : Type 0} → Option A → A → A
found_or (Some found) before = found
found_or None before = before

-- A call that takes memory answers the number of what it asks for, and 9 only where that is 0.
abbrev pub IsStatusOf : {A : Type 0} → Result A Refusal → ℕ → Type 0
IsStatusOf (Ok asked) status = (status ≡ 0) ⊎ (status ≡ 9)
IsStatusOf (Err refusal) status = status ≡ number_of refusal
