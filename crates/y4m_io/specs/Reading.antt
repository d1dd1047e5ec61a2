-- What reading a line takes from a source, and what it answers. Each word takes what the source shows before and after.
use Rattle.std.specs.Prelude.{◌≡◌, false, ℕ, List, take, Option, None, Some, IfSome, Result, Ok, Err}
use Rattle.std.specs.List.{list_any}
use Rattle.pix_io.specs.Shown.{Shown}
use Rattle.pix_io.specs.Streams.{Takes}
use Rattle.y4m_io.specs.declared.fault.StreamFault.{StreamFault}
use Rattle.y4m_io.specs.declared.fault.HeaderEnd.{HeaderEnd}
use Rattle.y4m_io.specs.declared.fault.HeaderEnd.TheVariants as header
use Rattle.y4m_io.specs.declared.fault.LineEnd.{LineEnd}
use Rattle.y4m_io.specs.declared.fault.LineEnd.TheVariants as line
use Rattle.y4m_io.specs.declared.header.Header.{Header}
use Rattle.y4m_io.specs.Lines.{is_newline}
use Rattle.y4m_io.specs.HeaderLine.{header_cut}
use Rattle.y4m_io.specs.FrameLine.{frame_line_cut}

-- the fault of the stream that is answered, where one is
abbrev pub header_fault : HeaderEnd → Option StreamFault
header_fault (header.Stream fault) = Some fault
header_fault header.ReadFault = None
header_fault header.OutOfMemory = None

abbrev pub line_fault : LineEnd → Option StreamFault
line_fault (line.Stream fault) = Some fault
line_fault line.ReadFault = None

-- whether every read of the call went well
abbrev pub header_reads : {T : Type 0} → Result T HeaderEnd → Result (Unit {0}) (Unit {0})
header_reads (Ok value) = Ok tt
header_reads (Err (header.Stream fault)) = Ok tt
header_reads (Err header.ReadFault) = Err tt
header_reads (Err header.OutOfMemory) = Ok tt

abbrev pub line_reads : {T : Type 0} → Result T LineEnd → Result (Unit {0}) (Unit {0})
line_reads (Ok value) = Ok tt
line_reads (Err (line.Stream fault)) = Ok tt
line_reads (Err line.ReadFault) = Err tt

-- a front of the bytes left was taken
abbrev pub TakesFront : Shown → Shown → Type 0
TakesFront old new = (front : List ℕ) × Takes old new front

-- a front of the bytes left was taken that has no newline
abbrev pub TakesOpen : Shown → Shown → Type 0
TakesOpen old new = (front : List ℕ) × (list_any is_newline front ≡ false) × Takes old new front

-- the bytes left began with the line of this header, and exactly the line was taken
abbrev pub TakesHeader : Shown → Shown → Header → Type 0
TakesHeader old new header =
    IfSome old.bytes (λ bytes.
    (size : ℕ) × (header_cut bytes ≡ Ok (record { header = header; size = size })) × Takes old new (take size bytes))

-- what the bytes left began with is no header, by this fault
abbrev pub IsNoHeader : Shown → StreamFault → Type 0
IsNoHeader old fault = IfSome old.bytes (λ bytes. header_cut bytes ≡ Err fault)

-- the bytes left began with a frame line, and exactly the line was taken
abbrev pub TakesFrameLine : Shown → Shown → Type 0
TakesFrameLine old new =
    IfSome old.bytes (λ bytes. (size : ℕ) × (frame_line_cut bytes ≡ Ok (Some size)) × Takes old new (take size bytes))

-- what the bytes left began with is no frame line, by this fault
abbrev pub IsNoFrameLine : Shown → StreamFault → Type 0
IsNoFrameLine old fault = IfSome old.bytes (λ bytes. frame_line_cut bytes ≡ Err fault)
